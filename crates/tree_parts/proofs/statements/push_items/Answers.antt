use Rattle.std.proofs.Common.{arith}
use Rattle.tree_parts.proofs.PushLaws.{items_more}
use Rattle.tree_parts.proofs.statements.push_items.Goals as goal

pub loop-at-preserved : goal.loop-at-preserved
loop-at-preserved c = items_more c.args.all.now.items c.loop-at.all.items c.push_values.new.all.items c.args.arms.now c.loop-at.at c.index-arms-at.result c.as_slice.result.now
    (omega arith) c.loop-at.invariant c.as_slice.ensures c.in_ok-push_values.ensures
