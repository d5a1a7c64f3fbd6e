use Rattle.std.proofs.Common.{◌+◌, List, arith, sym, subst}
use Rattle.cyc_net.specs.declared.cycle.BitLeaf.{BitLeaf}
use Rattle.unroller.specs.Steps.{Apart, Started, Before}
use Rattle.unroller.proofs.StepLaws.{apart_second}
use Rattle.unroller.proofs.FrameLaws.{before_start, unrolled_end}
use Rattle.unroller.proofs.TraceLaws.{follows_all}
use Rattle.unroller.proofs.unrolling.unroll.Goals as goal

pub place_states-requires-clause-apart : goal.place_states-requires-clause-apart
place_states-requires-clause-apart c =
    let d = c.args.cycle.now in
    subst Apart (sym c.as_slice-states.ensures) (apart_second d.net d.inputs d.states c.requires.leaves)

pub loop-at-init : goal.loop-at-init
loop-at-init c =
    let d = c.args.cycle.now in
    let start = c.args.start.now in
    let s = subst (λ (ps : List BitLeaf). Started start ps c.in_ok-net.net c.place_states.new.net c.place_states.new.sources.items c.in_ok-leaves.leaves) c.as_slice-states.ensures c.in_ok-leaves.ensures in
    subst (Before d c.args.setup.now start 0 c.place_states.new.net c.place_states.new.sources.items c.in_ok-leaves.leaves) (sym c.new-done.ensures)
    (before_start d c.args.setup.now start c.in_ok-net.net c.place_states.new.net c.place_states.new.sources.items c.in_ok-leaves.leaves s)

pub loop-at-preserved : goal.loop-at-preserved
loop-at-preserved c =
    subst (Before c.args.cycle.now c.args.setup.now c.args.start.now (c.loop-at.at + 1) c.step.new.net c.step.new.sources.items c.in_ok-frame.more) (sym c.in_ok-push.ensures.ok)
    (c.in_ok-frame.ensures c.args.start.now c.loop-at.done c.loop-at.invariant)

pub returns-clause-unrolled : goal.returns-clause-unrolled
returns-clause-unrolled c =
    unrolled_end c.args.cycle.now c.args.setup.now c.args.start.now c.loop-at.at c.args.frames c.loop-at.net c.loop-at.sources.items c.loop-at.leaves c.loop-at.done (omega arith) (omega (arith, c.len.ensures.value, c.len.ensures.most)) c.loop-at.invariant

pub returns-clause-follows : goal.returns-clause-follows
returns-clause-follows c =
    follows_all c.args.cycle.now c.args.setup.now c.args.frames c.args.start.now (record { net = c.loop-at.net; leaves = c.loop-at.leaves; frames = c.loop-at.done }) c.requires
    (unrolled_end c.args.cycle.now c.args.setup.now c.args.start.now c.loop-at.at c.args.frames c.loop-at.net c.loop-at.sources.items c.loop-at.leaves c.loop-at.done (omega arith) (omega (arith, c.len.ensures.value, c.len.ensures.most)) c.loop-at.invariant)
