use Rattle.std.proofs.Common.{◌≡◌, drop}
use Rattle.vl_generate.specs.Functions.{declared_inputs}
use Rattle.vl_generate.proofs.functions.declared_inputs.Given as goal

abbrev pub invariant-loop-declaration : goal.invariant-loop-declaration
invariant-loop-declaration g l = declared_inputs (g.S.Constants.meaning l.scope) l.all (drop l.declaration-index l.declarations) ≡ declared_inputs (g.S.Constants.meaning l.scope) l.fn.before l.declarations
