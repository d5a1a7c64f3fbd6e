use Rattle.std.proofs.Common.{◌≡◌, ℕ, ◌<◌, ◌≤◌, false, length, get_or, pos, ◌-ℤ◌}
use Rattle.bits_core.specs.Places.{written}
use Rattle.bits_core.proofs.places.write_over.Given as goal

-- each place so far is written, and each other one is as it was
abbrev pub invariant-loop-at : goal.invariant-loop-at
invariant-loop-at l = record {
  same_length : length l.out ≡ length l.initial.out;
  done : (k : ℕ) → k < l.at → get_or l.out k false ≡ written l.part (pos k -ℤ l.low) (get_or l.initial.out k false);
  left : (k : ℕ) → l.at ≤ k → get_or l.out k false ≡ get_or l.initial.out k false;
}
