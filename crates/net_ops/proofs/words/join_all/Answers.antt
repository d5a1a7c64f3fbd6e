use Rattle.std.proofs.Common.{length, arith}
use Rattle.bits_core.specs.Places.{zip_with}
use Rattle.net_ops.specs.Words.{gate_of, read}
use Rattle.net_ops.proofs.BuiltLaws as b
use Rattle.net_ops.proofs.words.join_all.Goals as goal

pub loop-at-preserved : goal.loop-at-preserved
loop-at-preserved c =
    let old = c.args.net.now in let xs = c.args.a.now in let ys = c.args.b.now in let inv = c.loop-at.invariant in let f = gate_of c.args.kind in
    b.Built-step old (λ v. zip_with f (read old v xs) (read old v ys)) c.loop-at.net c.join_gate.new.net c.loop-at.out _ c.loop-at.at c.in_ok-made.made
    inv c.join_gate.ensures.kept
    (b.next_joined f old xs ys c.requires.same c.loop-at.net c.join_gate.new.net c.loop-at.at c.in_ok-made.made _ _ c.requires.first c.requires.second inv.kept (omega arith) c.in_ok-made.ensures.made)
    (λ v. let l = b.long_joined f old xs ys c.requires.same v in omega arith)
    c.in_ok-push.ensures.ok

pub returns-clause-made : goal.returns-clause-made
returns-clause-made c =
    let old = c.args.net.now in let xs = c.args.a.now in let ys = c.args.b.now in let f = gate_of c.args.kind in
    b.Built-end old (λ v. zip_with f (read old v xs) (read old v ys)) c.loop-at.net c.loop-at.out c.loop-at.at (length xs) c.loop-at.invariant (omega arith)
    (λ v. let l = b.long_joined f old xs ys c.requires.same v in omega arith)
