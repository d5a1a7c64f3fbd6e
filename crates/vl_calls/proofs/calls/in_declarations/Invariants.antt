use Rattle.std.proofs.Common.{◌≡◌, drop}
use Rattle.vl_names.specs.Names.{listed}
use Rattle.vl_calls.specs.Called.{in_declarations}
use Rattle.vl_calls.proofs.calls.in_declarations.Given as goal

abbrev pub invariant-loop-declaration : goal.invariant-loop-declaration
invariant-loop-declaration l = in_declarations (listed l.all) (drop l.declaration-index l.declarations) ≡ in_declarations (listed l.fn.before) l.declarations
