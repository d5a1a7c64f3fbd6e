use Rattle.std.proofs.Common.{◌≡◌, drop}
use Rattle.vl_acts.specs.Writes.{some_assign_writes}
use Rattle.vl_acts.proofs.writes.some_assign_writes.Given as goal

abbrev pub invariant-loop-assign : goal.invariant-loop-assign
invariant-loop-assign l = some_assign_writes l.name (drop l.assign-index l.assigns) ≡ some_assign_writes l.name l.assigns
