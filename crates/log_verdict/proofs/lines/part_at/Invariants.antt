use Rattle.std.proofs.Common.{◌≡◌, ◌+◌, ◌≤◌, ◌++◌, suc, length}
use Rattle.cnf_core.specs.Text.{text_lines}
use Rattle.log_verdict.specs.Lines.{past, upto}
use Rattle.log_verdict.proofs.LineLaws.{IsEnded}
use Rattle.log_verdict.proofs.lines.part_at.Given as goal

abbrev pub invariant-loop-marker : goal.invariant-loop-marker
invariant-loop-marker l = record {
  front : text_lines l.front.items ++ upto l.marker (text_lines l.rest) ≡ upto l.marker (text_lines l.text);
  behind : past l.marker (text_lines l.rest) ≡ past l.marker (text_lines l.text);
  ended : IsEnded l.front.items;
  counted : l.lines ≡ suc (length (text_lines l.front.items));
  few : l.lines + length l.rest ≤ length l.text + 1;
}

abbrev pub decreases-loop-marker : goal.decreases-loop-marker
decreases-loop-marker l = length l.rest
