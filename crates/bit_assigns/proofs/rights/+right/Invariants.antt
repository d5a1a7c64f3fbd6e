use denote.Param.Weighed.{most}
use Rattle.std.proofs.Common.{◌≡◌, ◌+◌, ◌*◌, ◌-◌, ◌++◌, drop, map}
use Rattle.design_core.specs.declared.tree.DExpr.{size-DExpr}
use Rattle.bit_assigns.specs.declared.bits.Source.{Source}
use Rattle.bit_assigns.specs.Bits.{side_by_side}
use Rattle.bit_assigns.specs.Sides.{right_bits}
use Rattle.bit_assigns.proofs.rights.+right.Given as goal

abbrev pub decreases-push_right : goal.decreases-push_right
decreases-push_right l = 2 * size-DExpr l.right.now

abbrev pub decreases-push_select : goal.decreases-push_select
decreases-push_select l = 2 * size-DExpr l.base.now + 1

abbrev pub decreases-push_rights : goal.decreases-push_rights
decreases-push_rights l = 2 * most size-DExpr l.parts.now + 1

abbrev pub invariant-push_rights-loop-at : goal.invariant-push_rights-loop-at
invariant-push_rights-loop-at l = l.all.items ≡ l.fn.all.items ++ side_by_side {A = Source} (map right_bits (drop (l.count - l.at) l.parts))
