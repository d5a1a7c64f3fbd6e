use Rattle.std.proofs.Common.{◌-◌, arith, zero, length, get_or, ap, ◌∙◌, false}
use Rattle.bits_core.specs.Places.{exclusive_or}
use Rattle.vl_size.proofs.ConstantLaws.{number_end, number_next, number_large, one_more_fits}
use Rattle.vl_size.proofs.constant.flipped_number.Goals as goal

pub loop-turn-init : goal.loop-turn-init
loop-turn-init c = record {
  whole = number_end (exclusive_or c.args.flip) c.args.bits.now (length c.args.bits.now - zero) (omega arith);
  below = omega arith;
}

pub returns-then-value : goal.returns-then-value
returns-then-value c = number_large (exclusive_or c.args.flip) c.args.bits.now c.loop-turn.turn c.loop-turn.value (omega arith) c.loop-turn.invariant.whole (omega arith)

pub loop-turn-preserved : goal.loop-turn-preserved
loop-turn-preserved c = record {
  whole = number_next (exclusive_or c.args.flip) c.args.bits.now c.loop-turn.turn c.loop-turn.value _ c.with_bit-value.result (omega arith) c.loop-turn.invariant.whole
      (ap (exclusive_or c.args.flip) c.get.ensures ∙ ap (λ n. exclusive_or c.args.flip (get_or c.args.bits.now (n - 1 - c.loop-turn.turn) false)) c.len.ensures.value) c.with_bit-value.ensures;
  below = one_more_fits _ c.with_bit-value.result c.loop-turn.value c.with_bit-value.ensures (omega arith);
}
