use Rattle.std.proofs.Common.{◌≡◌, drop}
use Rattle.vl_names.specs.Tables.{table}
use Rattle.vl_items.specs.Declarations.{declare_constants}
use Rattle.vl_items.proofs.declared.declare_constants.Given as goal

abbrev pub invariant-loop-value : goal.invariant-loop-value
invariant-loop-value l = declare_constants (table l.all) (drop l.value-index l.values) ≡ declare_constants (table l.fn.before) l.values
