use Rattle.bits_core.specs.Places.{extended}
use Rattle.net_ops.proofs.places.extend_nodes.Goals as goal

pub returns : goal.returns
unfolding extended
returns c = c.fill.ensures
