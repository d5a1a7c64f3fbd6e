use Rattle.net_ops.specs.declared.net_domain.NetDomain.{NetDomain}
use Rattle.net_ops.proofs.MeaningLaws as m
use Rattle.net_ops.proofs.net_domain.NetDomainDomain.binary.Goals as goal

pub returns-clause-kept : goal.returns-clause-kept
returns-clause-kept c = m.keeps (λ (d : NetDomain). d.net) c.args.self.now _ c.binary_nodes.ensures.kept
