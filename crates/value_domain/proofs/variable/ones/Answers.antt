use Rattle.std.proofs.lemmas.Result.{IfOk-weaker}
use Rattle.value_domain.proofs.MoveLaws as mv
use Rattle.value_domain.proofs.variable.ones.Goals as goal

pub returns-clause-made : goal.returns-clause-made
returns-clause-made g c =
    IfOk-weaker c.unary.result _ _ (λ r made. mv.ones_made g.D.Domain.meaning c.constant.new.self c.unary.new.self c.in_ok-value.value r c.args.length c.in_ok-none.none c.in_ok-none.ensures c.in_ok-value.ensures.made made) c.unary.ensures.made
