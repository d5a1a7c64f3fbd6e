use Rattle.std.proofs.Common.{◌∙◌, ap}
use Rattle.bits_core.specs.Numbers.{difference_bits}
use Rattle.value_domain.proofs.LoopLaws.{from_zero}
use Rattle.value_domain.proofs.operators.negative.Goals as goal

pub returns : goal.returns
returns c = c.sub_into.ensures.value ∙ ap (λ z. difference_bits z c.args.bits.now) c.in_ok-zero.ensures ∙ from_zero _ c.args.bits.now c.len.ensures.value
