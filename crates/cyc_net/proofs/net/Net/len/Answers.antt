use Rattle.std.proofs.Common.{subst}
use Rattle.cyc_net.specs.Nets.{AllRead}
use Rattle.cyc_net.proofs.net.Net.len.Goals as goal

pub returns-clause-reads : goal.returns-clause-reads
returns-clause-reads c = subst (AllRead 0) c.self.view_is c.self.invariant.reads
