use Rattle.domain_tests.proofs.TestLaws.{Leaves}
use Rattle.domain_tests.proofs.circuits.leaf_word.Given as goal

abbrev pub invariant-loop-at : goal.invariant-loop-at
invariant-loop-at l = Leaves l.initial.net l.net l.word l.at
