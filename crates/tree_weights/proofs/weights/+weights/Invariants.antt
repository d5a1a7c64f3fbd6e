use denote.Param.Weighed.{most}
use Rattle.std.proofs.Common.{◌≡◌, ◌+◌, ◌*◌, ◌≤◌, drop}
use Rattle.design_core.specs.declared.tree.DArm.{size-DArm}
use Rattle.design_core.specs.declared.tree.DExpr.{size-DExpr}
use Rattle.design_core.specs.declared.tree.DFunction.{size-DFunction}
use Rattle.design_core.specs.declared.tree.DLeft.{size-DLeft}
use Rattle.design_core.specs.declared.tree.DMatch.{size-DMatch}
use Rattle.design_core.specs.declared.tree.DStmt.{size-DStmt}
use Rattle.design_core.specs.Formed.{expr_weight, stmt_weight}
use Rattle.design_core.specs.Wellformed.{signal_lengths}
use Rattle.tree_weights.specs.Rounds.{lengths_in}
use Rattle.tree_weights.specs.Spines.{arms_weight, exprs_weight, last, last_weight, lefts_weight, matches_weight, spine, spine_weight, stmts_weight}
use Rattle.tree_weights.proofs.weights.+weights.Given as goal

abbrev pub decreases-spend_expr : goal.decreases-spend_expr
decreases-spend_expr l = 3 * size-DExpr l.e.now + 1

abbrev pub decreases-spend_beside : goal.decreases-spend_beside
decreases-spend_beside l = 3 * size-DExpr l.e.now

abbrev pub decreases-spend_exprs : goal.decreases-spend_exprs
decreases-spend_exprs l = 3 * most size-DExpr l.parts.now + 2

abbrev pub decreases-spend_function : goal.decreases-spend_function
decreases-spend_function l = 3 * size-DFunction l.function.now

abbrev pub decreases-spend_left : goal.decreases-spend_left
decreases-spend_left l = 3 * size-DLeft l.left.now

abbrev pub decreases-spend_lefts : goal.decreases-spend_lefts
decreases-spend_lefts l = 3 * most size-DLeft l.parts.now + 2

abbrev pub decreases-spend_stmt : goal.decreases-spend_stmt
decreases-spend_stmt l = 3 * size-DStmt l.body.now + 1

abbrev pub decreases-spend_before_last : goal.decreases-spend_before_last
decreases-spend_before_last l = 3 * size-DStmt l.body.now

abbrev pub decreases-spend_stmts : goal.decreases-spend_stmts
decreases-spend_stmts l = 3 * most size-DStmt l.parts.now + 2

abbrev pub decreases-spend_arms : goal.decreases-spend_arms
decreases-spend_arms l = 3 * most size-DArm l.arms.now + 2

abbrev pub decreases-spend_arm : goal.decreases-spend_arm
decreases-spend_arm l = 3 * size-DArm l.arm.now

abbrev pub decreases-spend_matches : goal.decreases-spend_matches
decreases-spend_matches l = 3 * most size-DMatch l.items.now + 2

-- what the operand or branch that comes next weighs is not yet spent
abbrev pub invariant-spend_expr-loop-next : goal.invariant-spend_expr-loop-next
invariant-spend_expr-loop-next l = record {
  spent : l.fn.room + spine_weight (signal_lengths l.signals) (lengths_in l.round) (spine l.here.node) ≡ l.rest + expr_weight (signal_lengths l.signals) (lengths_in l.round) l.e;
  within : size-DExpr l.here ≤ size-DExpr l.e;
}

abbrev pub decreases-spend_expr-loop-next : goal.decreases-spend_expr-loop-next
decreases-spend_expr-loop-next l = size-DExpr l.here

abbrev pub invariant-spend_stmt-loop-next : goal.invariant-spend_stmt-loop-next
invariant-spend_stmt-loop-next l = record {
  spent : l.fn.room + last_weight (signal_lengths l.signals) (lengths_in l.round) (last l.here) ≡ l.rest + stmt_weight (signal_lengths l.signals) (lengths_in l.round) l.body;
  within : size-DStmt l.here ≤ size-DStmt l.body;
}

abbrev pub decreases-spend_stmt-loop-next : goal.decreases-spend_stmt-loop-next
decreases-spend_stmt-loop-next l = size-DStmt l.here

abbrev pub invariant-spend_exprs-loop-part : goal.invariant-spend_exprs-loop-part
invariant-spend_exprs-loop-part l = l.fn.room + exprs_weight (signal_lengths l.signals) (lengths_in l.round) (drop l.part-index l.parts) ≡ l.rest + exprs_weight (signal_lengths l.signals) (lengths_in l.round) l.parts

abbrev pub invariant-spend_lefts-loop-part : goal.invariant-spend_lefts-loop-part
invariant-spend_lefts-loop-part l = l.fn.room + lefts_weight (signal_lengths l.signals) (lengths_in l.round) (drop l.part-index l.parts) ≡ l.rest + lefts_weight (signal_lengths l.signals) (lengths_in l.round) l.parts

abbrev pub invariant-spend_stmts-loop-part : goal.invariant-spend_stmts-loop-part
invariant-spend_stmts-loop-part l = l.fn.room + stmts_weight (signal_lengths l.signals) (lengths_in l.round) (drop l.part-index l.parts) ≡ l.rest + stmts_weight (signal_lengths l.signals) (lengths_in l.round) l.parts

abbrev pub invariant-spend_arms-loop-arm : goal.invariant-spend_arms-loop-arm
invariant-spend_arms-loop-arm l = l.fn.room + arms_weight (signal_lengths l.signals) (lengths_in l.round) l.selector (drop l.arm-index l.arms) ≡ l.rest + arms_weight (signal_lengths l.signals) (lengths_in l.round) l.selector l.arms

abbrev pub invariant-spend_matches-loop-item : goal.invariant-spend_matches-loop-item
invariant-spend_matches-loop-item l = l.fn.room + matches_weight (signal_lengths l.signals) (lengths_in l.round) (drop l.item-index l.items) ≡ l.rest + matches_weight (signal_lengths l.signals) (lengths_in l.round) l.items
