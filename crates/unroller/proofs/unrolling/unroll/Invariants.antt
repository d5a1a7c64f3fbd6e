use Rattle.unroller.specs.Steps.{Before}
use Rattle.unroller.proofs.unrolling.unroll.Given as goal

abbrev pub invariant-loop-at : goal.invariant-loop-at
invariant-loop-at l = Before l.cycle l.setup l.start l.at l.net l.sources.items l.leaves l.done
