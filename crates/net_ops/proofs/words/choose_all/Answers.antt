use Rattle.std.proofs.Common.{length, cond, arith}
use Rattle.cyc_net.specs.Nets.{value}
use Rattle.net_ops.specs.Words.{read}
use Rattle.net_ops.proofs.BuiltLaws as b
use Rattle.net_ops.proofs.words.choose_all.Goals as goal

pub loop-at-preserved : goal.loop-at-preserved
loop-at-preserved c =
    let old = c.args.net.now in let xs = c.args.a.now in let ys = c.args.b.now in let inv = c.loop-at.invariant in
    b.Built-step old (λ v. cond (value old v c.args.test) (read old v xs) (read old v ys)) c.loop-at.net c.mux_gate.new.net c.loop-at.out _ c.loop-at.at c.in_ok-made.made
    inv c.mux_gate.ensures.kept
    (b.next_picked old c.args.test xs ys c.requires.same c.loop-at.net c.mux_gate.new.net c.loop-at.at c.in_ok-made.made _ _ c.requires.test c.requires.first c.requires.second inv.kept (omega arith) c.in_ok-made.ensures.made)
    (λ v. let l = b.long_picked old c.args.test xs ys c.requires.same v in omega arith)
    c.in_ok-push.ensures.ok

pub returns-clause-made : goal.returns-clause-made
returns-clause-made c =
    let old = c.args.net.now in let xs = c.args.a.now in let ys = c.args.b.now in
    b.Built-end old (λ v. cond (value old v c.args.test) (read old v xs) (read old v ys)) c.loop-at.net c.loop-at.out c.loop-at.at (length xs) c.loop-at.invariant (omega arith)
    (λ v. let l = b.long_picked old c.args.test xs ys c.requires.same v in omega arith)
