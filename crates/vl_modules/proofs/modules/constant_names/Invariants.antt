use Rattle.std.proofs.Common.{◌≡◌, drop}
use Rattle.vl_names.specs.Names.{listed}
use Rattle.vl_modules.specs.Modules.{constant_names}
use Rattle.vl_modules.proofs.modules.constant_names.Given as goal

abbrev pub invariant-loop-value : goal.invariant-loop-value
invariant-loop-value l = constant_names (listed l.all) (drop l.value-index l.values) ≡ constant_names (listed l.fn.before) l.values
