use Rattle.std.proofs.Common.{◌≡◌, drop}
use Rattle.vl_names.specs.Names.{listed}
use Rattle.vl_generate.specs.Overrides.{by_name}
use Rattle.vl_generate.proofs.binding.by_name.Given as goal

abbrev pub invariant-loop-bind : goal.invariant-loop-bind
invariant-loop-bind g l = by_name (g.S.Constants.meaning l.scope) (listed l.names) l.all (drop l.bind-index l.binds) ≡ by_name (g.S.Constants.meaning l.scope) (listed l.names) l.fn.unbound l.binds
