use Rattle.std.proofs.Common.{◌≡◌, ◌++◌, take}
use Rattle.lrat_checker.specs.Index.{clause_variables}
use Rattle.lrat_checker.proofs.made.push_variables.Given as goal

abbrev pub invariant-loop-lit : goal.invariant-loop-lit
invariant-loop-lit l = l.variables.items ≡ l.initial.variables.items ++ clause_variables (take l.lit-index l.clause)
