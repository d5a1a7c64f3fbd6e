use Rattle.std.proofs.Common.{◌≡◌, take}
use Rattle.bits_core.proofs.duplicate.ItemsDuplicate.copy.Given as goal

-- what was copied so far is the front of the list
abbrev pub invariant-loop-item : goal.invariant-loop-item
invariant-loop-item g l = l.copied ≡ take l.item-index l.self
