use Rattle.vl_tree.proofs.OrderLaws.{one_more_of}
use Rattle.vl_tree.proofs.order.lowest.Goals as goal

pub loop-code-preserved : goal.loop-code-preserved
loop-code-preserved c = one_more_of c.loop-code.least c.lower-least.result _ c.args.codes.now c.loop-code.code-index _ c.loop-code-test.true c.lower-least.ensures c.loop-code.invariant
