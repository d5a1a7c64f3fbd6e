use Rattle.std.proofs.Common.{ap, ◌∙◌, map, not}
use Rattle.std.proofs.lemmas.Result.{IfOk-weaker}
use Rattle.value_domain.proofs.LengthLaws.{not_exclusive}
use Rattle.value_domain.proofs.words.equivalence.Goals as goal

pub returns : goal.returns
returns c = IfOk-weaker c.inverted.result _ _ (λ r e. e ∙ ap (map not) c.in_ok-unlike.ensures ∙ not_exclusive c.args.a.now c.args.b.now) c.inverted.ensures
