use Rattle.std.proofs.Common.{◌≡◌, ℕ, ◌+◌, ◌-◌, ◌/◌, ◌<◌, length, get_or, arith}
use Rattle.std.proofs.lemmas.List.{get_or_default}
use Rattle.cyc_net.specs.declared.cycle.BitLeaf.{BitLeaf}
use Rattle.cyc_net.specs.Cycles.{no_leaf}
use Rattle.unroller.proofs.TableLaws.{above_more, below_more}
use Rattle.unroller.proofs.tables.place_of.Goals as goal

pub loop-low-preserved-then-here-bit-2 : goal.loop-low-preserved-then-here-bit-2
loop-low-preserved-then-here-bit-2 c =
    let bits = c.args.bits.now in
    let middle = c.loop-low.low + (c.loop-low.high - c.loop-low.low) / 2 in
    let inv = c.loop-low.invariant in
    let less = c.loop-low-test.true in
    let within = inv.within in
    let there : middle < length bits = omega (arith, less, within) in
    let p : BitLeaf = get_or bits middle no_leaf in
    record {
      order = omega (arith, less);
      within = within;
      below = below_more bits middle c.args.bit p c.requires there (get_or_default bits middle no_leaf p there) c.if-here-bit-2.true;
      above = inv.above;
    }

pub loop-low-preserved : goal.loop-low-preserved
loop-low-preserved c =
    let bits = c.args.bits.now in
    let middle = c.loop-low.low + (c.loop-low.high - c.loop-low.low) / 2 in
    let inv = c.loop-low.invariant in
    let less = c.loop-low-test.true in
    let within = inv.within in
    let there : middle < length bits = omega (arith, less, within) in
    let p : BitLeaf = get_or bits middle no_leaf in
    record {
      order = omega arith;
      within = omega (arith, less, within);
      below = inv.below;
      above = above_more bits middle c.args.bit p c.requires there (get_or_default bits middle no_leaf p there) c.if-here-bit.false c.if-here-bit-2.false;
    }
