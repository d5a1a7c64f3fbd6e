use Rattle.std.proofs.Common.{◌≡◌, take}
use Rattle.cnf_core.specs.Learned.{Each}
use Rattle.sat_core.proofs.learning.pair_of.Given as goal

abbrev pub invariant-loop-lit : goal.invariant-loop-lit
invariant-loop-lit l = Each (λ x. x ≡ l.first) (take l.lit-index l.clause)
