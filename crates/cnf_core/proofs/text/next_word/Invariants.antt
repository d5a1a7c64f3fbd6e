use Rattle.std.proofs.Common.{◌≡◌, ◌≤◌, length}
use Rattle.cnf_core.specs.Text.{words_of}
use Rattle.cnf_core.proofs.text.next_word.Given as goal

abbrev pub invariant-loop-rest : goal.invariant-loop-rest
invariant-loop-rest l = record {
  words : words_of l.line ≡ words_of l.rest;
  within : length l.rest ≤ length l.line;
}

abbrev pub decreases-loop-rest : goal.decreases-loop-rest
decreases-loop-rest l = length l.rest
