use Rattle.std.proofs.lemmas.Result.{IfOk-weaker}
use Rattle.value_domain.proofs.MoveLaws as mv
use Rattle.value_domain.proofs.variable.spread.Goals as goal

pub returns-clause-made : goal.returns-clause-made
returns-clause-made g c =
    IfOk-weaker c.binary-3.result _ _ (λ r made. mv.spread_made g.D.Domain.meaning c.args.domain.now c.binary.new.self c.place.new.self c.place-2.new.self c.binary-2.new.self c.binary-3.new.self
    c.args.zeros.now c.args.part.now c.args.amounts.now.right c.args.amounts.now.left c.in_ok-lowered.lowered c.in_ok-below.below c.in_ok-cut.cut c.in_ok-above.above r
    c.requires.zeros_are c.requires.zero c.requires.part_is c.requires.amounts_are.left_is c.binary.ensures.kept c.place.ensures.kept c.place-2.ensures.kept c.binary-2.ensures.kept
    c.in_ok-lowered.ensures.made c.in_ok-below.ensures.made c.in_ok-cut.ensures.made c.in_ok-above.ensures.made made) c.binary-3.ensures.made
