use Rattle.std.proofs.Common.{◌≤◌, take, All}
use Rattle.cnf_core.specs.Lit.{variable_of}
use Rattle.sat_core.proofs.solving.see_variables.Given as goal

abbrev pub invariant-loop-lit : goal.invariant-loop-lit
invariant-loop-lit l = All (λ x. 1 ≤ variable_of x) (take l.lit-index l.clause)
