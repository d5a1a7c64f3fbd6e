use Rattle.std.proofs.lemmas.Result.{IfOk-weaker}
use Rattle.value_domain.proofs.MoveLaws as mv
use Rattle.value_domain.proofs.variable.select_at.Goals as goal

pub returns-clause-made : goal.returns-clause-made
returns-clause-made g c =
    IfOk-weaker c.moved_bits.result _ _ (λ r made. mv.joined_made g.D.Domain.meaning c.args.domain.now c.move_by.new.domain c.moved_bits.new.domain c.args.base.now r c.in_ok-by.by c.args.len _
    (λ v. g.met.D.Domain.as_wide c.args.domain.now v c.args.base.now c.requires.base_is) c.requires.fits c.requires.most c.requires.base_is c.move_by.ensures.kept c.in_ok-by.ensures.made made) c.moved_bits.ensures.made
