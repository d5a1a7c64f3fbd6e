use denote.Param.Weighed.{most}
use Rattle.std.proofs.Common.{◌≤◌}
use Rattle.vl_tree.specs.declared.statements.Stmt.{size-Stmt}
use Rattle.vl_tree.specs.declared.statements.Citem.{size-Citem}
use Rattle.vl_tree.proofs.statements.+stmt.Given as goal

abbrev pub invariant-let_go_all-loop-last : goal.invariant-let_go_all-loop-last
invariant-let_go_all-loop-last l = most size-Stmt l.list.items ≤ most size-Stmt l.fn.list

abbrev pub decreases-let_go_all-loop-last : goal.decreases-let_go_all-loop-last
decreases-let_go_all-loop-last l = goal.left-let_go_all-loop-last l

abbrev pub invariant-let_go_arms-loop-last : goal.invariant-let_go_arms-loop-last
invariant-let_go_arms-loop-last l = most size-Citem l.list.items ≤ most size-Citem l.fn.list

abbrev pub decreases-let_go_arms-loop-last : goal.decreases-let_go_arms-loop-last
decreases-let_go_arms-loop-last l = goal.left-let_go_arms-loop-last l
