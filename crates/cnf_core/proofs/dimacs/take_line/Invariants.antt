use Rattle.std.proofs.Common.{◌≡◌, ℕ, ◌<◌, ◌^◌, ◌++◌, List, length}
use Rattle.cnf_core.specs.Text.{Word, marked, words_of}
use Rattle.cnf_core.specs.Dimacs.{read_words}
use Rattle.cnf_core.proofs.dimacs.take_line.Given as goal

abbrev pub invariant-loop-word : goal.invariant-loop-word
invariant-loop-word l = record {
  words : (n : ℕ) (ws : List Word) → read_words l.initial.reading (marked n (words_of l.line) ++ ws) ≡ read_words l.reading (marked n (words_of l.rest) ++ ws);
  small : l.reading.variables < 2 ^ 30;
}

abbrev pub decreases-loop-word : goal.decreases-loop-word
decreases-loop-word l = length l.rest
