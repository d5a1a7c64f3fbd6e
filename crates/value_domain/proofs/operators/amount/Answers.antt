use Rattle.std.proofs.Common.{◌-◌, arith, zero}
use Rattle.value_domain.proofs.LoopLaws.{number_end, number_more, number_whole, small_power, more_power}
use Rattle.value_domain.proofs.operators.amount.Goals as goal

pub loop-done-init : goal.loop-done-init
loop-done-init c = record {
  value = number_end c.args.bits.now (c.len-len.result - zero) (omega (arith, c.len-len.ensures.value));
  below = omega arith;
}

pub next_number-number-requires : goal.next_number-number-requires
next_number-number-requires c = small_power c.loop-done.number c.loop-done.done c.loop-done.invariant.below (omega (arith, c.len-len.ensures.value, c.requires))

pub loop-done-preserved : goal.loop-done-preserved
loop-done-preserved c = record {
  value = number_more c.args.bits.now c.len-len.result c.loop-done.done c.loop-done.number c.get.result _ c.len-len.ensures.value (omega arith) c.loop-done.invariant.value c.get.ensures c.next_number-number.ensures;
  below = more_power c.loop-done.number c.loop-done.done c.get.result _ c.loop-done.invariant.below c.next_number-number.ensures;
}

pub returns : goal.returns
returns c = number_whole c.args.bits.now c.len-len.result c.loop-done.done c.loop-done.number (omega arith) c.loop-done.invariant.value
