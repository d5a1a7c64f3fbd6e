use denote.Param.Weighed.{most}
use Rattle.std.proofs.Common.{◌≡◌, ◌+◌, ◌*◌, ◌-◌, ◌++◌, drop, map}
use Rattle.design_core.specs.declared.tree.DLeft.{size-DLeft}
use Rattle.design_core.specs.Parts.{length_at}
use Rattle.bit_assigns.specs.declared.bits.Target.{Target}
use Rattle.bit_assigns.specs.Bits.{side_by_side}
use Rattle.bit_assigns.specs.Sides.{left_bits}
use Rattle.bit_assigns.proofs.lefts.+left.Given as goal

abbrev pub decreases-push_left : goal.decreases-push_left
decreases-push_left l = 2 * size-DLeft l.left.now

abbrev pub decreases-push_lefts : goal.decreases-push_lefts
decreases-push_lefts l = 2 * most size-DLeft l.parts.now + 1

abbrev pub invariant-push_lefts-loop-at : goal.invariant-push_lefts-loop-at
invariant-push_lefts-loop-at l = l.all.items ≡ l.fn.all.items ++ side_by_side {A = Target} (map (left_bits (length_at l.signals)) (drop (l.count - l.at) l.parts))
