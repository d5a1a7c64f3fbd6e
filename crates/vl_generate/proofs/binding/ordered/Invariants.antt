use Rattle.std.proofs.Common.{◌≡◌, drop}
use Rattle.vl_generate.specs.Overrides.{ordered}
use Rattle.vl_generate.proofs.binding.ordered.Given as goal

abbrev pub invariant-loop-value : goal.invariant-loop-value
invariant-loop-value g l = ordered (g.S.Constants.meaning l.scope) l.at l.all (drop l.value-index l.values) ≡ ordered (g.S.Constants.meaning l.scope) 0 l.fn.unbound l.values
