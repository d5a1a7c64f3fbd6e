use Rattle.std.proofs.Common.{◌≡◌, ℕ, ◌≤◌, length, take, drop}
use Rattle.known_bits.specs.Known.{among, IsKept}
use Rattle.known_bits.proofs.known.forget.Given as goal

abbrev pub invariant-loop-all : goal.invariant-loop-all
invariant-loop-all l = record {
  kept : IsKept l.all.known.items l.all.trail.items;
  many : length l.all.known.items ≡ length l.initial.all.known.items;
  within : length l.all.trail.items ≤ length l.initial.all.trail.items;
  above : l.from ≤ length l.all.trail.items;
  prefix : l.all.trail.items ≡ take (length l.all.trail.items) l.initial.all.trail.items;
  gone : (n : ℕ) → among n l.gone.items ≡ among n (drop (length l.all.trail.items) l.initial.all.trail.items);
}

abbrev pub decreases-loop-all : goal.decreases-loop-all
decreases-loop-all l = length l.all.trail.items
