use Rattle.std.proofs.Common.{◌≡◌, drop}
use Rattle.vl_names.specs.Outward.{all, is_known}
use Rattle.vl_names.specs.Tables.{table}
use Rattle.vl_nets.specs.Nets.{use_ordered}
use Rattle.vl_nets.proofs.nets.use_ordered.Given as goal

abbrev pub invariant-loop-value : goal.invariant-loop-value
invariant-loop-value l = use_ordered (is_known (table l.outside.variable.now) (all l.outside.scopes.now) l.outside.outer) (table l.all) (drop l.value-index l.values) ≡ use_ordered (is_known (table l.outside.variable.now) (all l.outside.scopes.now) l.outside.outer) (table l.fn.before) l.values
