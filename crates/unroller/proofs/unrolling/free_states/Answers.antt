use Rattle.std.proofs.Common.{arith}
use Rattle.unroller.proofs.StepLaws.{started_free}
use Rattle.unroller.proofs.unrolling.free_states.Goals as goal

pub returns : goal.returns
returns c =
    let i = c.loop-state.invariant in
    started_free c.args.states.now c.args.net.now c.loop-state.net c.loop-state.sources.items c.loop-state.leaves c.loop-state.state-index (omega arith) i.kept i.nodes i.count i.has i.values
