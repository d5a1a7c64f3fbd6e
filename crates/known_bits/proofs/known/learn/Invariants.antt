use Rattle.std.proofs.Common.{◌≡◌, ◌≤◌, ◌⊎◌, ◌&&◌, nat_le, nat_lt, length}
use Rattle.known_bits.specs.Known.{Gains, IsKept}
use Rattle.known_bits.proofs.known.learn.Given as goal

abbrev pub invariant-loop-bit : goal.invariant-loop-bit
invariant-loop-bit l = record {
  kept : IsKept l.all.known.items l.all.trail.items;
  many : length l.all.known.items ≡ length l.initial.all.known.items;
  gains : Gains l.initial.all.trail.items l.all.trail.items (λ n. nat_le l.fn.span.from n && nat_lt n l.bit);
  within : (l.bit ≤ l.fn.span.to) ⊎ (l.bit ≡ l.fn.span.from);
}
