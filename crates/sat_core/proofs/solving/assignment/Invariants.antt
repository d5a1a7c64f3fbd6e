use Rattle.std.proofs.Common.{◌≡◌, map, take}
use Rattle.sat_core.specs.Solved.{as_true}
use Rattle.sat_core.proofs.solving.assignment.Given as goal

abbrev pub invariant-loop-value : goal.invariant-loop-value
invariant-loop-value l = l.bits ≡ map as_true (take l.value-index l.values)
