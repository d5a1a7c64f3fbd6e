use Rattle.std.proofs.Common.{◌≡◌, ℕ, ◌<◌, false, length, get_or}
use Rattle.bits_core.proofs.places.fill.Given as goal

-- each place so far is written
abbrev pub invariant-loop-at : goal.invariant-loop-at
invariant-loop-at g l = record {
  same_length : length l.out ≡ length l.initial.out;
  done : (k : ℕ) → k < l.at → get_or l.out k false ≡ g.P.ByPlace.value l.places k;
}
