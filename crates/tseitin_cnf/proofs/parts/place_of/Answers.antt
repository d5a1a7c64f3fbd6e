use Rattle.std.proofs.Common.{◌+◌, ◌-◌, ◌/◌, ◌<◌, length, arith}
use Rattle.tseitin_cnf.proofs.PartLaws.{above_more, below_more, found, not_found}
use Rattle.tseitin_cnf.proofs.parts.place_of.Goals as goal

pub loop-low-preserved-then-here-number-2 : goal.loop-low-preserved-then-here-number-2
loop-low-preserved-then-here-number-2 c =
    let numbers = c.args.numbers.now in
    let middle = c.loop-low.low + (c.loop-low.high - c.loop-low.low) / 2 in
    let inv = c.loop-low.invariant in
    let less = c.loop-low-test.true in
    let within = inv.within in
    let there : middle < length numbers = omega (arith, less, within) in
    record {
      order = omega (arith, less);
      within = within;
      below = below_more numbers middle c.args.number c.requires.ascend there c.if-here-number-2.true;
      above = inv.above;
    }

pub loop-low-preserved : goal.loop-low-preserved
loop-low-preserved c =
    let numbers = c.args.numbers.now in
    let middle = c.loop-low.low + (c.loop-low.high - c.loop-low.low) / 2 in
    let inv = c.loop-low.invariant in
    let less = c.loop-low-test.true in
    let within = inv.within in
    let there : middle < length numbers = omega (arith, less, within) in
    record {
      order = omega arith;
      within = omega (arith, less, within);
      below = inv.below;
      above = above_more numbers middle c.args.number c.requires.ascend there c.if-here-number.false c.if-here-number-2.false;
    }

pub returns-then-here-number : goal.returns-then-here-number
returns-then-here-number c =
    let inv = c.loop-low.invariant in
    let less = c.loop-low-test.true in
    let within = inv.within in
    found c.args.numbers.now (c.loop-low.low + (c.loop-low.high - c.loop-low.low) / 2) c.args.number c.requires.ascend (omega (arith, less, within)) c.if-here-number.true

pub returns : goal.returns
returns c = not_found c.args.numbers.now c.loop-low.low c.loop-low.high c.args.number c.loop-low-test.false c.loop-low.invariant.below c.loop-low.invariant.above
