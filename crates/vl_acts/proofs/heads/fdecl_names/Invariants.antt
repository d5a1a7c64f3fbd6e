use Rattle.std.proofs.Common.{◌≡◌, drop}
use Rattle.vl_names.specs.Names.{listed}
use Rattle.vl_acts.specs.Heads.{fdecl_names}
use Rattle.vl_acts.proofs.heads.fdecl_names.Given as goal

abbrev pub invariant-loop-declaration : goal.invariant-loop-declaration
invariant-loop-declaration l = fdecl_names (listed l.all) (drop l.declaration-index l.declarations) ≡ fdecl_names (listed l.fn.before) l.declarations
