use Rattle.unroller.specs.Steps.{Placing}
use Rattle.unroller.proofs.unrolling.place_inputs.Given as goal

abbrev pub invariant-loop-at : goal.invariant-loop-at
invariant-loop-at l = Placing l.setup l.cycle l.inputs l.at l.initial.net l.initial.sources.items l.first l.net l.sources.items l.leaves
