use Rattle.net_ops.proofs.WordSums.{Row}
use Rattle.net_ops.proofs.arithmetic.add_row.Given as goal

abbrev pub invariant-loop-at : goal.invariant-loop-at
invariant-loop-at l = Row l.initial.net l.a l.bit l.from l.initial.out l.net l.carry l.out l.at
