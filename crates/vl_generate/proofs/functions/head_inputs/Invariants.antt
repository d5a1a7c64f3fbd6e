use Rattle.std.proofs.Common.{◌≡◌, [], drop}
use Rattle.vl_generate.specs.Functions.{head_inputs}
use Rattle.vl_generate.proofs.functions.head_inputs.Given as goal

abbrev pub invariant-loop-input : goal.invariant-loop-input
invariant-loop-input g l = head_inputs (g.S.Constants.meaning l.scope) l.all (drop l.input-index l.inputs) ≡ head_inputs (g.S.Constants.meaning l.scope) [] l.inputs
