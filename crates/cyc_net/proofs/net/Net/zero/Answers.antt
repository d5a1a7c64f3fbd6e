use Rattle.cyc_net.proofs.NetLaws.{value_zero}
use Rattle.cyc_net.proofs.net.Net.zero.Goals as goal

pub returns-clause-worth : goal.returns-clause-worth
returns-clause-worth c = λ v. rw (← c.self.view_is) (value_zero c.self.inside.nodes.items v c.self.invariant)
