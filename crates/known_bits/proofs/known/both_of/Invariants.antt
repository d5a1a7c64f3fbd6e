use Rattle.std.proofs.Common.{◌≡◌, ℕ, ◌&&◌, take}
use Rattle.known_bits.specs.Known.{among}
use Rattle.known_bits.proofs.known.both_of.Given as goal

abbrev pub invariant-loop-at : goal.invariant-loop-at
invariant-loop-at l = (n : ℕ) → among n l.both.items ≡ (among n (take l.at l.bits) && among n l.all.trail.items)
