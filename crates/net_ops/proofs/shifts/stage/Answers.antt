use Rattle.std.proofs.Common.{length, arith}
use Rattle.net_ops.proofs.BuiltLaws as b
use Rattle.net_ops.proofs.WordMoves as w
use Rattle.net_ops.proofs.shifts.stage.Goals as goal

pub loop-at-preserved : goal.loop-at-preserved
loop-at-preserved c =
    let old = c.args.net.now in let xs = c.args.a.now in let inv = c.loop-at.invariant in
    b.Built-step old (w.staged_word old c.args.left c.args.fill c.args.by c.args.test xs) c.loop-at.net c.mux_gate.new.net c.loop-at.out _ c.loop-at.at c.in_ok-made.made
    inv c.mux_gate.ensures.kept
    (w.next_staged old c.args.left c.args.fill c.args.by c.args.test xs c.loop-at.net c.mux_gate.new.net c.loop-at.at c.in_ok-made.made c.coming-other.result _
    c.requires.fill c.requires.test c.requires.word inv.kept (omega arith) c.coming-other.ensures c.in_ok-made.ensures.made)
    (λ v. let l = w.long_staged old c.args.left c.args.fill c.args.by c.args.test xs v in omega arith)
    c.in_ok-push.ensures.ok

pub returns-clause-made : goal.returns-clause-made
returns-clause-made c =
    let old = c.args.net.now in let xs = c.args.a.now in
    b.Built-end old (w.staged_word old c.args.left c.args.fill c.args.by c.args.test xs) c.loop-at.net c.loop-at.out c.loop-at.at (length xs) c.loop-at.invariant (omega arith)
    (λ v. let l = w.long_staged old c.args.left c.args.fill c.args.by c.args.test xs v in omega arith)
