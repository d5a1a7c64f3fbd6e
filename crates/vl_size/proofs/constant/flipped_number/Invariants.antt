use Rattle.std.proofs.Common.{◌≡◌, ◌<◌, ◌-◌, ◌^◌, map, drop, length}
use Rattle.bits_core.specs.Numbers.{number}
use Rattle.bits_core.specs.Places.{exclusive_or}
use Rattle.vl_size.proofs.constant.flipped_number.Given as goal

-- the number of the highest bits so far
abbrev pub invariant-loop-turn : goal.invariant-loop-turn
invariant-loop-turn l = record {
  whole : l.value ≡ number (map (exclusive_or l.flip) (drop (length l.bits - l.turn) l.bits));
  below : l.value < 2 ^ 63;
}
