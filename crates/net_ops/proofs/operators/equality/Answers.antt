use Rattle.std.proofs.Common.{length}
use Rattle.net_ops.proofs.FoldLaws as f
use Rattle.net_ops.proofs.operators.equality.Goals as goal

pub returns-clause-made : goal.returns-clause-made
returns-clause-made c =
    let xs = c.args.a.now in
    f.equal_word c.args.net.now c.join_all.new.net c.reduced.new.net xs c.args.b.now c.in_ok-unlike.unlike (length xs) c.args.positive c.reduced.result c.requires.same
    c.in_ok-unlike.ensures.made (rw (← c.as_slice.ensures) c.reduced.ensures.made)
