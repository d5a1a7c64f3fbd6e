use Rattle.cyc_net.proofs.NetLaws.{value_one}
use Rattle.cyc_net.proofs.net.Net.one.Goals as goal

pub returns-clause-worth : goal.returns-clause-worth
returns-clause-worth c = λ v. rw (← c.self.view_is) (value_one c.self.inside.nodes.items v c.self.invariant)
