use Rattle.std.proofs.Common.{arith}
use Rattle.net_ops.proofs.WordSums as w
use Rattle.net_ops.proofs.arithmetic.product.Goals as goal

pub loop-from-init : goal.loop-from-init
loop-from-init c =
    w.Product-start c.args.net.now c.args.a.now c.args.b.now c.zero.result c.in_ok-out.out.items c.zero.ensures.within c.zero.ensures.worth (c.in_ok-out.ensures.items_if_clones_equal (λ y h. h))

pub loop-from-preserved : goal.loop-from-preserved
loop-from-preserved c =
    w.Product-lent c.args.net.now c.args.a.now c.args.b.now c.loop-from.net c.add_row.new.net c.loop-from.out.items c.as_mut_slice.result.now c.add_row.new.out c.loop-from.out.len c.loop-from.from _
    c.requires.first c.requires.second c.requires.same (omega arith) c.loop-from.invariant c.add_row.ensures.kept c.as_mut_slice.ensures.value (omega arith) c.in_ok-add_row.ensures.made
