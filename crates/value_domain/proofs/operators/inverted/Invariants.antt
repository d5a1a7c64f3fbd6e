use Rattle.std.proofs.Common.{◌≡◌, ℕ, ◌<◌, not, false, length, get_or}
use Rattle.value_domain.proofs.operators.inverted.Given as goal

abbrev pub invariant-loop-at : goal.invariant-loop-at
invariant-loop-at l = record {
  same_length : length l.out ≡ length l.bits;
  done : (k : ℕ) → k < l.at → get_or l.out k false ≡ not (get_or l.bits k false);
}
