use Rattle.std.proofs.Common.{◌≡◌, drop}
use Rattle.vl_names.specs.Outward.{all, is_known}
use Rattle.vl_names.specs.Tables.{table}
use Rattle.vl_nets.specs.Nets.{use_instances}
use Rattle.vl_nets.proofs.nets.use_instances.Given as goal

abbrev pub invariant-loop-instance : goal.invariant-loop-instance
invariant-loop-instance l = use_instances (is_known (table l.outside.variable.now) (all l.outside.scopes.now) l.outside.outer) (table l.all) (drop l.instance-index l.instances) ≡ use_instances (is_known (table l.outside.variable.now) (all l.outside.scopes.now) l.outside.outer) (table l.fn.before) l.instances
