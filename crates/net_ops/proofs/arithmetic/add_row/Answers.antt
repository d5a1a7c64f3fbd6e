use Rattle.std.proofs.Common.{arith, refl}
use Rattle.net_ops.proofs.WordSums as w
use Rattle.net_ops.proofs.arithmetic.add_row.Goals as goal

pub loop-at-preserved : goal.loop-at-preserved
loop-at-preserved c =
    w.Row-step c.args.net.now c.args.a.now c.args.bit c.args.from c.args.out.now c.loop-at.net c.and_gate.new.net c.add_place.new.net c.loop-at.out _ c.loop-at.at _ _ c.loop-at.carry
    c.in_ok-part.part c.in_ok-digit.digit c.in_ok-digit.next c.requires.first c.requires.bit c.requires.long (omega arith) c.loop-at.invariant c.and_gate.ensures.kept c.add_place.ensures.kept
    c.in_ok-part.ensures.made c.in_ok-digit.ensures.made refl

pub returns-clause-made : goal.returns-clause-made
returns-clause-made c = w.Row-end c.args.net.now c.args.a.now c.args.bit c.args.from c.args.out.now c.loop-at.net c.loop-at.out c.loop-at.at c.loop-at.carry (omega arith) c.loop-at.invariant
