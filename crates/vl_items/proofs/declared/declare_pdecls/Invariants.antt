use Rattle.std.proofs.Common.{◌≡◌, drop}
use Rattle.vl_names.specs.Tables.{table}
use Rattle.vl_items.specs.Declarations.{declare_pdecls}
use Rattle.vl_items.proofs.declared.declare_pdecls.Given as goal

abbrev pub invariant-loop-parameter : goal.invariant-loop-parameter
invariant-loop-parameter l = declare_pdecls (table l.all) (drop l.parameter-index l.parameters) ≡ declare_pdecls (table l.fn.before) l.parameters
