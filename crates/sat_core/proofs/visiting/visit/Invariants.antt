use Rattle.std.proofs.Common.{◌-◌, length}
use Rattle.sat_core.specs.Watch.{code_of, list_at, IsVisiting, Went}
use Rattle.sat_core.proofs.visiting.visit.Given as goal

abbrev pub invariant-loop-at : goal.invariant-loop-at
invariant-loop-at l = record {
  visiting : IsVisiting l.clauses l.leaves (length l.initial.trail.values.items) (length l.initial.watches.pairs.items) l.trail l.watches l.lit l.at;
  went : Went l.initial.trail l.trail;
}

abbrev pub decreases-loop-at : goal.decreases-loop-at
decreases-loop-at l = length (list_at l.watches.lists.items (code_of l.lit)) - l.at
