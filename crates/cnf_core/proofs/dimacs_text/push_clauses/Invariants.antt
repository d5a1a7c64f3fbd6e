use Rattle.std.proofs.Common.{◌≡◌, ◌++◌, drop}
use Rattle.cnf_core.specs.DimacsText.{clauses_text}
use Rattle.cnf_core.proofs.dimacs_text.push_clauses.Given as goal

abbrev pub invariant-loop-clause : goal.invariant-loop-clause
invariant-loop-clause l = l.out.items ++ clauses_text (drop l.clause-index l.clauses) ≡ l.initial.out.items ++ clauses_text l.clauses
