use Rattle.bits_core.specs.Places.{extended}
use Rattle.bits_core.proofs.places.extend_all.Goals as goal

pub returns : goal.returns
unfolding extended
returns c = c.fill.ensures
