use Rattle.std.proofs.Common.{length, map, not, arith}
use Rattle.net_ops.specs.Words.{read}
use Rattle.net_ops.proofs.BuiltLaws as b
use Rattle.net_ops.proofs.words.invert_all.Goals as goal

pub loop-at-preserved : goal.loop-at-preserved
loop-at-preserved c =
    let old = c.args.net.now in let xs = c.args.a.now in let inv = c.loop-at.invariant in
    b.Built-step old (λ v. map not (read old v xs)) c.loop-at.net c.not_gate.new.net c.loop-at.out _ c.loop-at.at c.in_ok-made.made
    inv c.not_gate.ensures.kept
    (b.next_inverted old xs c.loop-at.net c.not_gate.new.net c.loop-at.at c.in_ok-made.made _ c.requires inv.kept (omega arith) c.in_ok-made.ensures.made)
    (λ v. let l = b.long_inverted old xs v in omega arith)
    c.in_ok-push.ensures.ok

pub returns-clause-made : goal.returns-clause-made
returns-clause-made c =
    let old = c.args.net.now in let xs = c.args.a.now in
    b.Built-end old (λ v. map not (read old v xs)) c.loop-at.net c.loop-at.out c.loop-at.at (length xs) c.loop-at.invariant (omega arith)
    (λ v. let l = b.long_inverted old xs v in omega arith)
