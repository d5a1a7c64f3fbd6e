use Rattle.std.proofs.Common.{◌≡◌, ◌++◌, drop}
use Rattle.cnf_core.specs.DimacsText.{clause_text}
use Rattle.cnf_core.proofs.dimacs_text.push_clause.Given as goal

abbrev pub invariant-loop-lit : goal.invariant-loop-lit
invariant-loop-lit l = l.out.items ++ clause_text (drop l.lit-index l.clause) ≡ l.initial.out.items ++ clause_text l.clause
