use Rattle.net_ops.proofs.WordSums.{Below}
use Rattle.net_ops.proofs.arithmetic.below.Given as goal

abbrev pub invariant-loop-at : goal.invariant-loop-at
invariant-loop-at l = Below l.initial.net l.signed l.a l.b l.net l.low l.at
