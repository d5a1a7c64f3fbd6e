use Rattle.cyc_net.proofs.NetLaws.{value_decided}
use Rattle.cyc_net.proofs.laws.leaves_decide.Goals as goal

pub returns : goal.returns
returns c = value_decided
