use Rattle.std.proofs.Common.{◌≡◌, ◌+◌, ◌<◌, ◌≤◌, ◌^◌, length}
use Rattle.cnf_core.specs.Text.{text_lines, words_from}
use Rattle.cnf_core.specs.Dimacs.{read_words, start}
use Rattle.cnf_core.proofs.dimacs.read_dimacs.Given as goal

abbrev pub invariant-loop-rest : goal.invariant-loop-rest
invariant-loop-rest l = record {
  words : read_words start (words_from 1 (text_lines l.bytes)) ≡ read_words l.reading (words_from (l.line + 1) (text_lines l.rest));
  lines : l.line + length (text_lines l.rest) ≡ length (text_lines l.bytes);
  within : l.line + length l.rest ≤ length l.bytes;
  small : l.reading.variables < 2 ^ 30;
}

abbrev pub decreases-loop-rest : goal.decreases-loop-rest
decreases-loop-rest l = length l.rest
