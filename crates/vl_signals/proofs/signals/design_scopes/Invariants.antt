use Rattle.std.proofs.Common.{◌≡◌, ◌++◌, drop}
use Rattle.vl_names.specs.Names.{listed}
use Rattle.vl_names.specs.Outward.{all}
use Rattle.vl_signals.specs.Signals as spec
use Rattle.vl_signals.proofs.signals.design_scopes.Given as goal

abbrev pub invariant-loop-scope : goal.invariant-loop-scope
invariant-loop-scope l = l.made ++ spec.design_scopes (listed l.names) (all (drop l.scope-index l.scopes)) ≡ spec.design_scopes (listed l.names) (all l.scopes)
