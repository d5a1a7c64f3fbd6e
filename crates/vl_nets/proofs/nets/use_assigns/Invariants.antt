use Rattle.std.proofs.Common.{◌≡◌, drop}
use Rattle.vl_names.specs.Outward.{all, is_known}
use Rattle.vl_names.specs.Tables.{table}
use Rattle.vl_nets.specs.Nets.{use_assigns}
use Rattle.vl_nets.proofs.nets.use_assigns.Given as goal

abbrev pub invariant-loop-assign : goal.invariant-loop-assign
invariant-loop-assign l = use_assigns (is_known (table l.outside.variable.now) (all l.outside.scopes.now) l.outside.outer) (table l.all) (drop l.assign-index l.assigns) ≡ use_assigns (is_known (table l.outside.variable.now) (all l.outside.scopes.now) l.outside.outer) (table l.fn.before) l.assigns
