use Rattle.net_ops.proofs.BuiltLaws.{Built}
use Rattle.net_ops.proofs.WordMoves.{staged_word}
use Rattle.net_ops.proofs.shifts.stage.Given as goal

abbrev pub invariant-loop-at : goal.invariant-loop-at
invariant-loop-at l = Built l.initial.net l.net l.out l.at (staged_word l.initial.net l.left l.fill l.by l.test l.a)
