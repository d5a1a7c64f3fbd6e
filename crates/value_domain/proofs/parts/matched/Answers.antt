use Rattle.std.proofs.lemmas.Result.{IfOk-weaker}
use Rattle.value_domain.proofs.WordLaws as w
use Rattle.value_domain.proofs.parts.matched.Goals as goal

pub returns-in-None-clause-made : goal.returns-in-None-clause-made
returns-in-None-clause-made g c =
    IfOk-weaker c.binary.result _ _ (λ r made. w.equal_made g.D.Domain.meaning g.met.D.Domain.as_wide c.args.domain.now c.binary.new.self c.args.selector.now c.args.item.now r c.args.free.now c.in-None.is
    c.requires.values.0 c.requires.values.1 c.requires.same made) c.binary.ensures.made

pub returns-in_ok-counts-in-Some-clause-made : goal.returns-in_ok-counts-in-Some-clause-made
returns-in_ok-counts-in-Some-clause-made g c =
    IfOk-weaker c.unary-in-Some.result _ _ (λ r made. w.free_made g.D.Domain.meaning g.met.D.Domain.as_wide c.args.domain.now c.binary-in-Some.new.self c.constant.new.self c.unary.new.self c.binary-in-Some-2.new.self c.unary-in-Some.new.self
    c.args.selector.now c.args.item.now c.in_ok-unlike-in-Some.unlike c.in_ok-free-in-Some.free c.in_ok-fixed-in-Some.fixed c.in_ok-counts-in-Some.counts r c.args.free.now c.in-Some.bits c.in-Some.is c.requires.fits
    c.requires.values.0 c.requires.values.1 c.requires.same c.constant.ensures.kept c.unary.ensures.kept
    c.in_ok-unlike-in-Some.ensures.made c.in_ok-free-in-Some.ensures.made c.in_ok-fixed-in-Some.ensures.made c.in_ok-counts-in-Some.ensures.made made) c.unary-in-Some.ensures.made
