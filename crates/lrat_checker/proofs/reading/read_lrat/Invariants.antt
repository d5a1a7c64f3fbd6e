use Rattle.std.proofs.Common.{◌≡◌, ◌+◌, ◌≤◌, length}
use Rattle.cnf_core.specs.Text.{text_lines}
use Rattle.lrat_checker.specs.Lrat.{log_from, onto_log}
use Rattle.lrat_checker.proofs.reading.read_lrat.Given as goal

abbrev pub invariant-loop-rest : goal.invariant-loop-rest
invariant-loop-rest l = record {
  steps : log_from 1 (text_lines l.bytes) ≡ onto_log l.log (log_from (l.line + 1) (text_lines l.rest));
  within : l.line + length l.rest ≤ length l.bytes;
}

abbrev pub decreases-loop-rest : goal.decreases-loop-rest
decreases-loop-rest l = length l.rest
