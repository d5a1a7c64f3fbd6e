use Rattle.std.proofs.Common.{◌≡◌, drop}
use Rattle.vl_names.specs.Names.{listed}
use Rattle.vl_acts.specs.Heads.{input_names}
use Rattle.vl_acts.proofs.heads.input_names.Given as goal

abbrev pub invariant-loop-input : goal.invariant-loop-input
invariant-loop-input l = input_names (listed l.all) (drop l.input-index l.inputs) ≡ input_names (listed l.fn.before) l.inputs
