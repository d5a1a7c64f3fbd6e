use Rattle.net_ops.proofs.WordSums.{Adding}
use Rattle.net_ops.proofs.arithmetic.add_all.Given as goal

abbrev pub invariant-loop-at : goal.invariant-loop-at
invariant-loop-at l = Adding l.initial.net l.subtract l.a l.b l.net l.carry l.out l.at
