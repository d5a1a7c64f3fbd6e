use Rattle.std.proofs.Common.{◌≡◌, ◌≤◌, ◌++◌, map, drop, slice_range}
use Rattle.plain_form.specs.Pieces as spec
use Rattle.plain_form.proofs.cut.pieces.Given as goal

abbrev pub invariant-loop-i : goal.invariant-loop-i
invariant-loop-i l = record {
  order : l.start ≤ l.i;
  cut : map (λ p. p.now) l.pieces.items ++ spec.cut l.at (slice_range l.text l.start l.i) (drop l.i l.text) ≡ spec.pieces l.at l.text;
}
