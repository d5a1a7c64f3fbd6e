use Rattle.std.proofs.Common.{◌≡◌, drop}
use Rattle.vl_names.specs.Names.{listed}
use Rattle.vl_names.specs.Tables.{table}
use Rattle.vl_modules.specs.Modules.{declare_among}
use Rattle.vl_modules.proofs.modules.declare_among.Given as goal

abbrev pub invariant-loop-var : goal.invariant-loop-var
invariant-loop-var l = declare_among (listed l.ports) l.signed (table l.all) (drop l.var-index l.vars) ≡ declare_among (listed l.ports) l.signed (table l.fn.before) l.vars
