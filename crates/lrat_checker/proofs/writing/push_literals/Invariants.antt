use Rattle.std.proofs.Common.{◌≡◌, ◌++◌, drop}
use Rattle.cnf_core.specs.Numbers.{numbers_text}
use Rattle.lrat_checker.proofs.writing.push_literals.Given as goal

abbrev pub invariant-loop-lit : goal.invariant-loop-lit
invariant-loop-lit l = l.out.items ++ numbers_text (drop l.lit-index l.lits) ≡ l.initial.out.items ++ numbers_text l.lits
