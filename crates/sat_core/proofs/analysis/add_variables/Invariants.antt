use Rattle.std.proofs.Common.{◌≡◌, ℕ, ◌||◌, take, length}
use Rattle.std.specs.BinaryHeap.{heap_items}
use Rattle.sat_core.specs.Places.{IsPending, AreBelow}
use Rattle.sat_core.specs.Rests.{has_variable, needs}
use Rattle.sat_core.proofs.analysis.add_variables.Given as goal

abbrev pub invariant-loop-lit : goal.invariant-loop-lit
invariant-loop-lit l = record {
  size : length l.pending.flags.items ≡ length l.initial.pending.flags.items;
  flags : (x : ℕ) → needs l.pending.flags.items x ≡ (needs l.initial.pending.flags.items x || has_variable (take l.lit-index l.clause) x);
  waits : (top bound : ℕ) → IsPending l.marks l.initial.pending.flags.items (heap_items l.initial.pending.places) top bound → AreBelow l.marks l.initial.pending.flags.items l.clause top
      → IsPending l.marks l.pending.flags.items (heap_items l.pending.places) top bound;
}
