use Rattle.std.proofs.Common.{◌≡◌, ◌≤◌, ◌++◌, map, drop, slice_range}
use Rattle.command_words.specs.Parts as spec
use Rattle.command_words.proofs.cut.parts.Given as goal

abbrev pub invariant-loop-i : goal.invariant-loop-i
invariant-loop-i l = record {
  order : l.start ≤ l.i;
  cut : map (λ p. p.now) l.parts.items ++ spec.parts_from l.at (slice_range l.text l.start l.i) (drop l.i l.text) ≡ spec.parts l.at l.text;
}
