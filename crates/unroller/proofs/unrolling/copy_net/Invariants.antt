use Rattle.unroller.specs.Steps.{Copying}
use Rattle.unroller.proofs.unrolling.copy_net.Given as goal

abbrev pub invariant-loop-at : goal.invariant-loop-at
invariant-loop-at l = Copying l.cycle l.at l.initial.net l.sources l.net l.copies.items
