use Rattle.std.proofs.Common.{◌≡◌, drop}
use Rattle.vl_names.specs.Names.{listed}
use Rattle.vl_modules.specs.Modules.{pdecl_names}
use Rattle.vl_modules.proofs.modules.pdecl_names.Given as goal

abbrev pub invariant-loop-parameter : goal.invariant-loop-parameter
invariant-loop-parameter l = pdecl_names (listed l.all) (drop l.parameter-index l.parameters) ≡ pdecl_names (listed l.fn.before) l.parameters
