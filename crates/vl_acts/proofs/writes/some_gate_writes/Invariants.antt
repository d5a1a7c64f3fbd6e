use Rattle.std.proofs.Common.{◌≡◌, drop}
use Rattle.vl_acts.specs.Writes.{some_gate_writes}
use Rattle.vl_acts.proofs.writes.some_gate_writes.Given as goal

abbrev pub invariant-loop-gate : goal.invariant-loop-gate
invariant-loop-gate l = some_gate_writes l.name (drop l.gate-index l.gates) ≡ some_gate_writes l.name l.gates
