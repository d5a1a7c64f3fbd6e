use Rattle.std.proofs.Common.{arith}
use Rattle.unroller.proofs.StepLaws.{started_power}
use Rattle.unroller.proofs.unrolling.fixed_states.Goals as goal

pub returns : goal.returns
returns c =
    started_power c.args.values.now c.args.states.now c.args.net.now c.loop-at.sources.items c.loop-at.at (omega arith) c.loop-at.invariant.nodes c.requires.none c.loop-at.invariant.values
