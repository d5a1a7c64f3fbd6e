use Rattle.std.proofs.Common.{◌≡◌, drop}
use Rattle.vl_names.specs.Outward.{all, is_known}
use Rattle.vl_names.specs.Tables.{table}
use Rattle.vl_nets.specs.Nets.{use_gates}
use Rattle.vl_nets.proofs.nets.use_gates.Given as goal

abbrev pub invariant-loop-gate : goal.invariant-loop-gate
invariant-loop-gate l = use_gates (is_known (table l.outside.variable.now) (all l.outside.scopes.now) l.outside.outer) (table l.all) (drop l.gate-index l.gates) ≡ use_gates (is_known (table l.outside.variable.now) (all l.outside.scopes.now) l.outside.outer) (table l.fn.before) l.gates
