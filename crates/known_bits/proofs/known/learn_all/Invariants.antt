use Rattle.std.proofs.Common.{◌≡◌, length, take}
use Rattle.known_bits.specs.Known.{among, Gains, IsKept}
use Rattle.known_bits.proofs.known.learn_all.Given as goal

abbrev pub invariant-loop-at : goal.invariant-loop-at
invariant-loop-at l = record {
  kept : IsKept l.all.known.items l.all.trail.items;
  many : length l.all.known.items ≡ length l.initial.all.known.items;
  gains : Gains l.initial.all.trail.items l.all.trail.items (λ n. among n (take l.at l.bits));
}
