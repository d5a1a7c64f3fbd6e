use Rattle.std.proofs.Common.{◌≡◌, None, length, map, sum, sym, ◌∙◌, ap, arith}
use Rattle.std.proofs.lemmas.List.{length-replicate}
use Rattle.design_core.specs.declared.place.BitRef.{BitRef}
use Rattle.design_core.specs.Cells.{Cell}
use Rattle.design_core.specs.Parts.{item_cell}
use Rattle.design_core.specs.Wellformed.{signal_lengths}
use Rattle.item_bits.specs.Pieces.{some_has}
use Rattle.item_links.specs.Noted.{cell_in, first_drives}
use Rattle.item_links.specs.Numbered.{AreBits}
use Rattle.item_links.proofs.SpanLaws.{added_all, more_room, rooms}
use Rattle.item_links.proofs.NotedLaws.{next_item}
use Rattle.item_links.proofs.GraphLaws.{cell_there, there_in}
use Rattle.item_links.proofs.drivers.note_items.Goals as goal

pub note_pieces-requires-clause-room : goal.note_pieces-requires-clause-room
note_pieces-requires-clause-room c = λ p m.
    let signals = c.args.signals.now in
    let lengths = signal_lengths signals in
    let x = c.index-items-at.result in
    let over = c.requires.bits x (there_in c.args.items.now c.loop-at.at x c.loop-at-test.true (sym c.index-items-at.is)) in
    let added = added_all c.new-pieces.result.items c.add_item_drives.new.all.items c.as_slice.result.now (item_cell signals x).drives c.new-pieces.ensures.items c.as_slice.ensures.value c.in_ok-add_item_drives.ensures in
    let bits : AreBits lengths (some_has c.as_slice.result.now) = λ b h. over.drives_bits b (sym (added b) ∙ h) in
    let same = c.loop-at.auto.drivers in
    let many : length c.args.drivers.now ≡ sum lengths = ap length c.requires.drivers ∙ length-replicate (sum lengths) None in
    more_room c.args.starts.now (sum lengths) (length c.loop-at.drivers) p (omega (arith, same, many)) (rooms lengths c.args.starts.now c.requires.starts c.as_slice.result.now bits p m)

pub loop-at-preserved : goal.loop-at-preserved
loop-at-preserved c =
    let signals = c.args.signals.now in
    let lengths = signal_lengths signals in
    let items = c.args.items.now in
    let cells = map (item_cell signals) items in
    let x = c.index-items-at.result in
    let over = c.requires.bits x (there_in items c.loop-at.at x c.loop-at-test.true (sym c.index-items-at.is)) in
    let added = added_all c.new-pieces.result.items c.add_item_drives.new.all.items c.as_slice.result.now (item_cell signals x).drives c.new-pieces.ensures.items c.as_slice.ensures.value c.in_ok-add_item_drives.ensures in
    let bits : AreBits lengths (some_has c.as_slice.result.now) = λ b h. over.drives_bits b (sym (added b) ∙ h) in
    let here : cell_in cells c.loop-at.at ≡ item_cell signals x = cell_there signals items c.loop-at.at x c.loop-at-test.true (sym c.index-items-at.is) in
    next_item lengths cells c.loop-at.at (some_has c.as_slice.result.now) c.note_pieces.new.drivers c.note_pieces.new.twice
    (λ b. added b ∙ ap (λ (y : Cell BitRef). y.drives b) (sym here))
    (c.note_pieces.ensures lengths (first_drives cells c.loop-at.at) c.requires.starts bits c.loop-at.invariant)
