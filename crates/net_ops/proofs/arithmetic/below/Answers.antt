use Rattle.std.proofs.Common.{arith, refl}
use Rattle.net_ops.proofs.WordSums as w
use Rattle.net_ops.proofs.arithmetic.below.Goals as goal

pub loop-at-preserved : goal.loop-at-preserved
loop-at-preserved c =
    w.Below-step c.args.net.now c.args.signed c.args.a.now c.args.b.now c.loop-at.net c.below_place.new.net c.loop-at.at _ _ c.loop-at.low c.in_ok-low.low _
    c.requires.first c.requires.second c.requires.same (omega arith) refl c.loop-at.invariant c.below_place.ensures.kept c.in_ok-low.ensures.made

pub returns-clause-made : goal.returns-clause-made
returns-clause-made c = w.Below-end c.args.net.now c.args.signed c.args.a.now c.args.b.now c.loop-at.net c.loop-at.low c.loop-at.at c.requires.same (omega arith) c.loop-at.invariant
