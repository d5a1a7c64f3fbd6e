use Rattle.std.proofs.Common.{◌≡◌, drop}
use Rattle.vl_names.specs.Names.{listed}
use Rattle.vl_calls.specs.Called.{in_inputs}
use Rattle.vl_calls.proofs.calls.in_inputs.Given as goal

abbrev pub invariant-loop-input : goal.invariant-loop-input
invariant-loop-input l = in_inputs (listed l.all) (drop l.input-index l.inputs) ≡ in_inputs (listed l.fn.before) l.inputs
