use Rattle.vl_size.proofs.GapLaws.{gap_next}
use Rattle.vl_size.proofs.gap.gap_of_bits.Goals as goal

pub loop-turn-preserved : goal.loop-turn-preserved
loop-turn-preserved c =
    let n = c.longer-len.result in
    let turn = c.loop-turn.turn in
    let a = c.digit.result in
    let b = c.digit-in-loop-turn.result in
    let m = c.loop-turn.gap.above in
    let k = c.loop-turn.gap.below in record {
      above = gap_next c.args.flip c.args.first.now c.args.second.now n turn m k c.with_digits-gap.result.above a b c.loop-turn-test.true
          c.loop-turn.invariant.above c.loop-turn.invariant.below c.digit.ensures c.digit-in-loop-turn.ensures c.with_digits-gap.ensures.above;
      below = gap_next c.args.flip c.args.second.now c.args.first.now n turn k m c.with_digits-gap.result.below b a c.loop-turn-test.true
          c.loop-turn.invariant.below c.loop-turn.invariant.above c.digit-in-loop-turn.ensures c.digit.ensures c.with_digits-gap.ensures.below;
    }
