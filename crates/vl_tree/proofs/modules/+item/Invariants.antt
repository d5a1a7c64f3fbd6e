use denote.Param.Weighed.{most}
use Rattle.std.proofs.Common.{◌≤◌}
use Rattle.vl_tree.specs.declared.modules.Item.{size-Item}
use Rattle.vl_tree.specs.declared.modules.GenArm.{size-GenArm}
use Rattle.vl_tree.proofs.modules.+item.Given as goal

abbrev pub invariant-let_go_all-loop-last : goal.invariant-let_go_all-loop-last
invariant-let_go_all-loop-last l = most size-Item l.list.items ≤ most size-Item l.fn.list

abbrev pub decreases-let_go_all-loop-last : goal.decreases-let_go_all-loop-last
decreases-let_go_all-loop-last l = goal.left-let_go_all-loop-last l

abbrev pub invariant-let_go_arms-loop-last : goal.invariant-let_go_arms-loop-last
invariant-let_go_arms-loop-last l = most size-GenArm l.list.items ≤ most size-GenArm l.fn.list

abbrev pub decreases-let_go_arms-loop-last : goal.decreases-let_go_arms-loop-last
decreases-let_go_arms-loop-last l = goal.left-let_go_arms-loop-last l
