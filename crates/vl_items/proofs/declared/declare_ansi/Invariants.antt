use Rattle.std.proofs.Common.{◌≡◌, drop}
use Rattle.vl_names.specs.Tables.{table}
use Rattle.vl_items.specs.Declarations.{declare_ansi}
use Rattle.std.proofs.Common.{false}
use Rattle.vl_items.proofs.declared.declare_ansi.Given as goal

abbrev pub invariant-loop-port : goal.invariant-loop-port
invariant-loop-port l = declare_ansi l.signed (table l.all) (drop l.port-index l.ports) ≡ declare_ansi false (table l.fn.before) l.ports
