use denote.Param.Weighed.{most}
use Rattle.std.proofs.Common.{◌≤◌}
use Rattle.vl_tree.specs.declared.expressions.Expr.{size-Expr}
use Rattle.vl_tree.specs.declared.expressions.Select.{size-Select}
use Rattle.vl_tree.proofs.expressions.+expr.Given as goal

abbrev pub invariant-Expr::drop-loop-self : goal.invariant-Expr::drop-loop-self
invariant-Expr::drop-loop-self l = size-Expr l.self ≤ size-Expr l.initial.self

abbrev pub invariant-let_go_all-loop-last : goal.invariant-let_go_all-loop-last
invariant-let_go_all-loop-last l = most size-Expr l.list.items ≤ most size-Expr l.fn.list

abbrev pub decreases-let_go_all-loop-last : goal.decreases-let_go_all-loop-last
decreases-let_go_all-loop-last l = goal.left-let_go_all-loop-last l

abbrev pub invariant-let_go_selects-loop-last : goal.invariant-let_go_selects-loop-last
invariant-let_go_selects-loop-last l = most size-Select l.list.items ≤ most size-Select l.fn.list

abbrev pub decreases-let_go_selects-loop-last : goal.decreases-let_go_selects-loop-last
decreases-let_go_selects-loop-last l = goal.left-let_go_selects-loop-last l
