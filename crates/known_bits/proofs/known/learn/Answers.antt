use Rattle.std.proofs.Common.{◌&&◌, nat_le, nat_lt}
use Rattle.item_order.specs.Spans.{holds}
use Rattle.known_bits.proofs.KnownLaws.{gains_as, span_end}
use Rattle.known_bits.proofs.known.learn.Goals as goal

pub returns-clause-gains : goal.returns-clause-gains
returns-clause-gains c =
    let p = c.args.span in
    gains_as c.args.all.now.trail.items c.loop-bit.all.trail.items (λ n. nat_le p.from n && nat_lt n c.loop-bit.bit) (holds p)
    (λ n. span_end p.from p.to c.loop-bit.bit n c.loop-bit-test.false c.loop-bit.invariant.within) c.loop-bit.invariant.gains
