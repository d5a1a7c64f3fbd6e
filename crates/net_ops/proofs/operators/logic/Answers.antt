use Rattle.bits_core.specs.Places.{is_set}
use Rattle.net_ops.specs.Words.{gate_of, read}
use Rattle.net_ops.proofs.FoldLaws as f
use Rattle.net_ops.proofs.operators.logic.Goals as goal

pub returns-clause-made : goal.returns-clause-made
returns-clause-made c =
    let old = c.args.net.now in let xs = c.args.a.now in let ys = c.args.b.now in let g = gate_of c.args.kind in
    f.lone_word c.join_gate.new.net c.in_ok-node.node (λ v. g (is_set (read old v xs)) (is_set (read old v ys))) c.alone.result
    (f.logic_bit g old c.reduce.new.net c.reduce-2.new.net c.join_gate.new.net xs ys c.in_ok-first.first c.in_ok-second.second c.in_ok-node.node
    c.reduce.ensures.kept c.reduce-2.ensures.kept c.requires.second c.in_ok-first.ensures.made c.in_ok-second.ensures.made c.in_ok-node.ensures.made)
    c.alone.ensures
