use Rattle.std.proofs.Common.{◌≡◌, length}
use Rattle.sat_core.specs.Learn.{IsBegun}
use Rattle.sat_core.proofs.learning.begin.Given as goal

abbrev pub invariant-loop-place : goal.invariant-loop-place
invariant-loop-place l = record {
  begun : IsBegun l.clauses l.leaves (length l.initial.trail.values.items) l.place l.trail l.watches;
  size : length l.trail.values.items ≡ length l.initial.trail.values.items;
}
