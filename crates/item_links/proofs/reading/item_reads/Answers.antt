use Rattle.std.proofs.Common.{◌≡◌, ◌-◌, ◌^◌, ◌&&◌, true, false, not, List, length, sum, sym, ◌∙◌, ap, subst, arith}
use Rattle.design_core.specs.Parts.{item_cell, item_of, length_at}
use Rattle.design_core.specs.Wellformed.{signal_lengths}
use Rattle.item_bits.specs.Items.{asked_within}
use Rattle.item_bits.specs.Pieces.{some_has}
use Rattle.item_order.specs.declared.spans.Span.{Span}
use Rattle.item_links.specs.Numbered.{AreBelow, AreBits, AreSpansOf}
use Rattle.item_links.specs.Owned.{AreStamped, is_comb}
use Rattle.item_links.proofs.SpanLaws.{added_all, more_room, rooms, same_spans}
use Rattle.item_links.proofs.ReadLaws.{asked_bits, low_reset, reads_comb, reads_other}
use Rattle.item_links.proofs.reading.item_reads.Goals as goal

pub spans_of-requires : goal.spans_of-requires
spans_of-requires c = record {
  room = λ p m.
      let lengths = signal_lengths c.args.signals.now in
      let size = length_at c.args.signals.now in
      let x = item_of size c.args.item.now in
      let ps = c.as_slice.result.now in
      let low = low_reset lengths x c.requires.bits c.requires.few in
      let added = added_all c.new-pieces.result.items c.add_item_reads.new.all.items ps (asked_within x) c.new-pieces.ensures.items c.as_slice.ensures.value (c.in_ok-add_item_reads.ensures size low) in
      let bits : AreBits lengths (some_has ps) = λ b h. asked_bits lengths x c.requires.bits b (sym (added b) ∙ h) in
      let few = c.requires.few in
      more_room c.args.starts.now (sum lengths) (2 ^ 31 - 1) p (omega (arith, few)) (rooms lengths c.args.starts.now c.requires.starts ps bits p m);
}

pub returns-then-not-is_comb-clause-spans : goal.returns-then-not-is_comb-clause-spans
returns-then-not-is_comb-clause-spans c =
    let lengths = signal_lengths c.args.signals.now in
    let size = length_at c.args.signals.now in
    let x = item_of size c.args.item.now in
    let ps = c.as_slice.result.now in
    let low = low_reset lengths x c.requires.bits c.requires.few in
    let added = added_all c.new-pieces.result.items c.add_item_reads.new.all.items ps (asked_within x) c.new-pieces.ensures.items c.as_slice.ensures.value (c.in_ok-add_item_reads.ensures size low) in
    let bits : AreBits lengths (some_has ps) = λ b h. asked_bits lengths x c.requires.bits b (sym (added b) ∙ h) in
    let other : is_comb c.args.item.now ≡ false = sym c.is_comb.ensures ∙ c.if-not-is_comb.true in
    let f = (item_cell c.args.signals.now c.args.item.now).reads in
    let P : List Span → Type 0 = λ spans. AreSpansOf lengths f spans in
    subst P (sym c.of.ensures) (same_spans lengths (some_has ps) f c.in_ok-spans.spans.items (λ b. added b ∙ reads_other size c.args.item.now other b) (c.in_ok-spans.ensures.spans lengths c.requires.starts bits))

pub returns-then-not-is_comb-clause-below : goal.returns-then-not-is_comb-clause-below
returns-then-not-is_comb-clause-below c =
    let lengths = signal_lengths c.args.signals.now in
    let size = length_at c.args.signals.now in
    let x = item_of size c.args.item.now in
    let ps = c.as_slice.result.now in
    let low = low_reset lengths x c.requires.bits c.requires.few in
    let added = added_all c.new-pieces.result.items c.add_item_reads.new.all.items ps (asked_within x) c.new-pieces.ensures.items c.as_slice.ensures.value (c.in_ok-add_item_reads.ensures size low) in
    let bits : AreBits lengths (some_has ps) = λ b h. asked_bits lengths x c.requires.bits b (sym (added b) ∙ h) in
    let P : List Span → Type 0 = λ spans. AreBelow (sum lengths) spans in
    subst P (sym c.of.ensures) (c.in_ok-spans.ensures.below (sum lengths) (λ p m. rooms lengths c.args.starts.now c.requires.starts ps bits p m))

pub others_of-requires-clause-room : goal.others_of-requires-clause-room
others_of-requires-clause-room c = λ p m.
    let lengths = signal_lengths c.args.signals.now in
    let size = length_at c.args.signals.now in
    let x = item_of size c.args.item.now in
    let ps = c.as_slice-3.result.now in
    let low = low_reset lengths x c.requires.bits c.requires.few in
    let added = added_all c.new-pieces.result.items c.add_item_reads.new.all.items ps (asked_within x) c.new-pieces.ensures.items c.as_slice-3.ensures.value (c.in_ok-add_item_reads.ensures size low) in
    let bits : AreBits lengths (some_has ps) = λ b h. asked_bits lengths x c.requires.bits b (sym (added b) ∙ h) in
    let many = c.requires.many_drivers in
    more_room c.args.starts.now (sum lengths) (length c.args.drivers.now) p (omega (arith, many)) (rooms lengths c.args.starts.now c.requires.starts ps bits p m)

pub returns-clause-spans : goal.returns-clause-spans
returns-clause-spans c =
    let lengths = signal_lengths c.args.signals.now in
    let size = length_at c.args.signals.now in
    let x = item_of size c.args.item.now in
    let ps = c.as_slice-3.result.now in
    let low = low_reset lengths x c.requires.bits c.requires.few in
    let added = added_all c.new-pieces.result.items c.add_item_reads.new.all.items ps (asked_within x) c.new-pieces.ensures.items c.as_slice-3.ensures.value (c.in_ok-add_item_reads.ensures size low) in
    let bits : AreBits lengths (some_has ps) = λ b h. asked_bits lengths x c.requires.bits b (sym (added b) ∙ h) in
    let comb : is_comb c.args.item.now ≡ true = sym c.is_comb.ensures ∙ c.if-not-is_comb.false in
    let cell = item_cell c.args.signals.now c.args.item.now in
    let own = added_all c.new-driven.result.items c.add_item_drives.new.all.items c.as_slice-2.result.now cell.drives c.new-driven.ensures.items c.as_slice-2.ensures.value c.in_ok-add_item_drives.ensures in
    let stamped : AreStamped c.stamp.new.stamps cell.drives c.args.at = λ b h l. c.stamp.ensures b (own b ∙ h) l in
    let P : List Span → Type 0 = λ spans. AreSpansOf lengths cell.reads spans in
    subst P (sym c.of-2.ensures) (same_spans lengths (λ b. some_has ps b && not (cell.drives b)) cell.reads c.in_ok-spans-2.spans.items
    (λ b. ap (λ y. y && not (cell.drives b)) (added b) ∙ reads_comb size c.args.item.now comb b)
    (c.in_ok-spans-2.ensures.spans lengths cell.drives c.requires.starts bits c.requires.own stamped))
