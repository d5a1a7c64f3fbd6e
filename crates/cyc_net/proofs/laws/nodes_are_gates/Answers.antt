use Rattle.cyc_net.proofs.NetLaws.{value_gate}
use Rattle.cyc_net.proofs.laws.nodes_are_gates.Goals as goal

pub returns : goal.returns
returns c = value_gate
