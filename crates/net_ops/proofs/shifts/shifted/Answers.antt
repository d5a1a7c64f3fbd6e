use Rattle.std.proofs.Common.{◌≤◌, length, arith, refl}
use Rattle.std.proofs.lemmas.Result.{IfOk-weaker}
use Rattle.net_ops.proofs.WordMoves as w
use Rattle.net_ops.proofs.shifts.shifted.Goals as goal
use Rattle.net_ops.proofs.shifts.shifted.Goals.{then-loop-at-test+else-step-a, else-loop-at-test}

pub loop-at-preserved : goal.loop-at-preserved
loop-at-preserved c =
    w.Shifting-step c.args.net.now c.args.left c.args.fill c.args.a.now c.args.by.now c.loop-at.net c.stage.new.net c.loop-at.now c.as_slice.result.now c.in_ok-now-2.now c.loop-at.at c.loop-at.step _ _
    c.requires.fill c.requires.amount (omega arith) c.as_slice.ensures c.loop-at.invariant c.stage.ensures.kept refl c.in_ok-now-2.ensures.made

pub returns-then-at-by-clause-made : goal.returns-then-at-by-clause-made
returns-then-at-by-clause-made c =
    w.Shifting-done c.args.net.now c.args.left c.args.fill c.args.a.now c.args.by.now c.loop-at.net c.loop-at.now c.loop-at.at c.loop-at.step (omega arith) c.loop-at.invariant

pub returns-clause-made : goal.returns-clause-made
returns-clause-made c =
    let le : length c.args.a.now ≤ c.loop-at.step = elim c.loop-at-test.branch [
      | then-loop-at-test+else-step-a k ↦ omega (arith, k.if-step-a.false)
      | else-loop-at-test k ↦ let i = c.loop-at.invariant.within in omega (arith, k.loop-at-test.false, i)
    ] in
    IfOk-weaker c.stage-2.result _ _ (λ r. w.Shifting-end c.args.net.now c.args.left c.args.fill c.args.a.now c.args.by.now c.loop-at.net c.reduce.new.net c.stage-2.new.net c.loop-at.now c.as_slice-2.result.now r
    c.loop-at.at c.loop-at.step c.in_ok-past.past c.requires.fill c.requires.amount le c.as_slice-2.ensures c.loop-at.invariant c.reduce.ensures.kept c.in_ok-past.ensures.made) c.stage-2.ensures.made
