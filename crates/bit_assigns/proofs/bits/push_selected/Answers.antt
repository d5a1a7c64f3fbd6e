use Rattle.std.proofs.Common.{pos, ◌+ℤ◌}
use mir.Syntax.{w64}
use mir.Val.{of_z, to_z}
use Rattle.bit_assigns.specs.Bits.{source_or_int}
use Rattle.bit_assigns.proofs.ListLaws.{one_more}
use Rattle.bit_assigns.proofs.bits.push_selected.Goals as goal

pub loop-at-preserved : goal.loop-at-preserved
loop-at-preserved c = one_more (λ k. source_or_int c.args.bits.now (to_z w64 (of_z w64 c.args.low) +ℤ pos k)) _ _ _ c.loop-at.at _ c.in_ok-push.ensures.items c.loop-at.invariant
    c.source_above.ensures
