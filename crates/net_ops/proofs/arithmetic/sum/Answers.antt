use Rattle.std.proofs.lemmas.Result.{IfOk-weaker}
use Rattle.std.proofs.Common.{length}
use Rattle.net_ops.proofs.WordSums as w
use Rattle.net_ops.proofs.arithmetic.sum.Goals as goal

pub returns-clause-made : goal.returns-clause-made
returns-clause-made c = IfOk-weaker c.add_all.result _ _ (λ r. w.word_is c.add_all.new.net r (length c.args.a.now) _ _ (w.sums c.args.net.now c.args.a.now c.args.b.now c.requires.same)) c.add_all.ensures.made
