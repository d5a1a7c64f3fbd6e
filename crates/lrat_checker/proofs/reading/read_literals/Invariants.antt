use Rattle.std.proofs.Common.{◌≡◌, ◌^◌, length}
use Rattle.cnf_core.specs.Text.{words_of}
use Rattle.lrat_checker.specs.Lrat.{until_zero, onto_all}
use Rattle.lrat_checker.proofs.reading.read_literals.Given as goal

abbrev pub invariant-loop-word : goal.invariant-loop-word
invariant-loop-word l = until_zero (2 ^ 30) (words_of l.line) ≡ onto_all l.lits.items (until_zero (2 ^ 30) (words_of l.rest))

abbrev pub decreases-loop-word : goal.decreases-loop-word
decreases-loop-word l = length l.rest
