use Rattle.std.proofs.Common.{arith}
use Rattle.value_domain.proofs.LoopLaws.{inverted_by}
use Rattle.value_domain.proofs.operators.inverted.Goals as goal

pub returns : goal.returns
returns c = inverted_by c.args.bits.now c.loop-at.out c.loop-at.invariant.same_length (λ k l. c.loop-at.invariant.done k (omega (arith, l, c.len-at-end.ensures.value)))
