use Rattle.std.proofs.Common.{◌≡◌, length, drop}
use Rattle.clock_chains.specs.Links as links
use Rattle.clock_chains.proofs.chains.marked.Given as goal

abbrev pub invariant-loop-place : goal.invariant-loop-place
invariant-loop-place l = record {
  marks : links.with_marks l.marks.items (drop l.place-index l.places) ≡ links.marks l.count l.places;
  many : length l.marks.items ≡ l.count;
}
