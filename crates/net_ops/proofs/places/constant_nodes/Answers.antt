use Rattle.net_ops.proofs.PlaceLaws as p
use Rattle.net_ops.proofs.places.constant_nodes.Goals as goal

pub returns : goal.returns
returns c = p.constant_word c.args.net.now c.args.bits.now c.len.result c.fill.result c.len.ensures.value c.fill.ensures
