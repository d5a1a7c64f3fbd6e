use Rattle.std.proofs.Common.{take}
use Rattle.sat_core.specs.Sync.{Fits}
use Rattle.solve_cases.proofs.cases.clause_fits.Given as goal

abbrev pub invariant-loop-lit : goal.invariant-loop-lit
invariant-loop-lit l = Fits l.room (take l.lit-index l.clause)
