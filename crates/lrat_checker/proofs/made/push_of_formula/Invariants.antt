use Rattle.std.proofs.Common.{◌≡◌, ◌++◌, take}
use Rattle.std.specs.List.{flat_map}
use Rattle.lrat_checker.specs.Index.{clause_variables}
use Rattle.lrat_checker.proofs.made.push_of_formula.Given as goal

abbrev pub invariant-loop-clause : goal.invariant-loop-clause
invariant-loop-clause l = l.variables.items ≡ l.initial.variables.items ++ flat_map clause_variables (take l.clause-index l.formula)
