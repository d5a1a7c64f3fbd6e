use Rattle.value_domain.proofs.LoopLaws.{decides_equal}
use Rattle.value_domain.proofs.operators.same.Goals as goal

pub returns : goal.returns
returns c = decides_equal c.eq.result c.args.a.now c.args.b.now c.eq.ensures
