use Rattle.std.proofs.Common.{◌≡◌, ℕ, ◌<◌, false, length, get_or}
use Rattle.bits_core.specs.Joint.{joint_of}
use Rattle.bits_core.proofs.places.join_all.Given as goal

-- each place so far is written
abbrev pub invariant-loop-at : goal.invariant-loop-at
invariant-loop-at l = record {
  same_length : length l.out ≡ length l.initial.out;
  done : (k : ℕ) → k < l.at → get_or l.out k false ≡ joint_of l.joint (get_or l.a k false) (get_or l.b k false);
}
