use Rattle.cyc_net.proofs.NetLaws.{worth_leaf}
use Rattle.cyc_net.proofs.laws.worth_is_leaf.Goals as goal

pub returns : goal.returns
returns c = worth_leaf
