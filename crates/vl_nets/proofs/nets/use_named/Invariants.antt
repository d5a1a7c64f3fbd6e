use Rattle.std.proofs.Common.{◌≡◌, drop}
use Rattle.vl_names.specs.Outward.{all, is_known}
use Rattle.vl_names.specs.Tables.{table}
use Rattle.vl_nets.specs.Nets.{use_named}
use Rattle.vl_nets.proofs.nets.use_named.Given as goal

abbrev pub invariant-loop-bind : goal.invariant-loop-bind
invariant-loop-bind l = use_named (is_known (table l.outside.variable.now) (all l.outside.scopes.now) l.outside.outer) (table l.all) (drop l.bind-index l.binds) ≡ use_named (is_known (table l.outside.variable.now) (all l.outside.scopes.now) l.outside.outer) (table l.fn.before) l.binds
