use Rattle.std.proofs.Common.{◌≡◌, drop}
use Rattle.vl_names.specs.Tables.{table}
use Rattle.vl_items.specs.Declarations.{declare_vars}
use Rattle.vl_items.proofs.declared.declare_vars.Given as goal

abbrev pub invariant-loop-var : goal.invariant-loop-var
invariant-loop-var l = declare_vars l.signed (table l.all) (drop l.var-index l.vars) ≡ declare_vars l.signed (table l.fn.before) l.vars
