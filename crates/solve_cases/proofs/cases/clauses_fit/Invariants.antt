use Rattle.std.proofs.Common.{take, All}
use Rattle.sat_core.specs.Sync.{Fits}
use Rattle.solve_cases.proofs.cases.clauses_fit.Given as goal

abbrev pub invariant-loop-clause : goal.invariant-loop-clause
invariant-loop-clause l = All (Fits l.room) (take l.clause-index l.clauses)
