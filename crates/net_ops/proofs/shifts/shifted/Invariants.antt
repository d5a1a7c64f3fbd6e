use Rattle.std.proofs.Common.{◌-◌, length}
use Rattle.net_ops.proofs.WordMoves.{Shifting}
use Rattle.net_ops.proofs.shifts.shifted.Given as goal

abbrev pub invariant-loop-at : goal.invariant-loop-at
invariant-loop-at l = Shifting l.initial.net l.left l.fill l.a l.by l.net l.now l.at l.step

abbrev pub decreases-loop-at : goal.decreases-loop-at
decreases-loop-at l = length l.by - l.at
