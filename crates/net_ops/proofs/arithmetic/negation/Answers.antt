use Rattle.std.proofs.lemmas.Result.{IfOk-weaker}
use Rattle.std.proofs.Common.{◌∙◌}
use Rattle.net_ops.proofs.WordSums as w
use Rattle.net_ops.proofs.arithmetic.negation.Goals as goal

pub returns-clause-made : goal.returns-clause-made
returns-clause-made c =
    let old = c.args.net.now in
    let zeros = c.as_slice.ensures.value ∙ c.in_ok-zeros.ensures.items_if_clones_equal (λ y h. h) in
    IfOk-weaker c.difference.result _ _ (λ r. w.negated_word old c.args.a.now c.as_slice.result.now c.zero.result c.difference.new.net r zeros c.zero.ensures.worth) c.difference.ensures.made
