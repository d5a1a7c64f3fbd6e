use Rattle.cyc_net.proofs.NetLaws.{Gated-trans}
use Rattle.net_ops.specs.declared.net_domain.NetDomain.{NetDomain}
use Rattle.net_ops.proofs.MeaningLaws as m
use Rattle.net_ops.proofs.net_domain.NetDomainDomain.mux.Goals as goal

pub returns-in_err-test-clause-kept : goal.returns-in_err-test-clause-kept
returns-in_err-test-clause-kept c = m.keeps (λ (d : NetDomain). d.net) c.args.self.now _ c.reduce.ensures.kept

pub returns-clause-kept : goal.returns-clause-kept
returns-clause-kept c =
    m.keeps (λ (d : NetDomain). d.net) c.args.self.now _ (Gated-trans c.args.self.now.net c.reduce.new.net c.choose_all.new.net c.reduce.ensures.kept c.choose_all.ensures.kept)

pub returns-clause-made : goal.returns-clause-made
returns-clause-made c =
    m.muxed (λ (d : NetDomain). d.net) c.args.self.now c.reduce.new.net _ c.choose_all.result c.args.c.now c.args.a.now c.args.b.now c.in_ok-test.test c.reduce.ensures.kept c.requires.values.1 c.requires.values.2
    (rw (← c.as_slice.ensures) c.in_ok-test.ensures.made) (rw (← c.as_slice-2.ensures, ← c.as_slice-3.ensures) c.choose_all.ensures.made)
