use Rattle.std.proofs.Common.{◌≡◌, ◌-◌, min}
use Rattle.vl_size.proofs.GapLaws.{from_place}
use Rattle.vl_size.proofs.gap.gap_of_bits.Given as goal

-- the gap of the numbers of the highest bits so far
abbrev pub invariant-loop-turn : goal.invariant-loop-turn
invariant-loop-turn l = record {
  above : l.gap.above ≡ min 65537 (from_place l.flip l.first (l.len - l.turn) - from_place l.flip l.second (l.len - l.turn));
  below : l.gap.below ≡ min 65537 (from_place l.flip l.second (l.len - l.turn) - from_place l.flip l.first (l.len - l.turn));
}
