use Rattle.std.proofs.Common.{◌≡◌, ◌+◌, length, map, sum, sym, ◌∙◌, ap, subst}
use Rattle.std.proofs.lemmas.List.{length_push}
use Rattle.design_core.specs.declared.place.BitRef.{BitRef}
use Rattle.design_core.specs.Cells.{Cell}
use Rattle.design_core.specs.Parts.{item_cell}
use Rattle.design_core.specs.Wellformed.{signal_lengths}
use Rattle.item_links.specs.Noted.{cell_in}
use Rattle.item_links.specs.Numbered.{AreSpansOf}
use Rattle.item_links.proofs.GraphLaws.{cell_there, push_spans, push_within, there_in}
use Rattle.item_links.proofs.reading.all_reads.Goals as goal

pub item_reads-requires-clause-bits : goal.item_reads-requires-clause-bits
item_reads-requires-clause-bits c =
    let x = c.index-items-at.result in
    c.requires.bits x (there_in c.args.items.now c.loop-at.at x c.loop-at-test.true (sym c.index-items-at.is))

pub loop-at-preserved : goal.loop-at-preserved
loop-at-preserved c =
    let signals = c.args.signals.now in
    let lengths = signal_lengths signals in
    let items = c.args.items.now in
    let cells = map (item_cell signals) items in
    let x = c.index-items-at.result in
    let r = c.in_ok-item_reads.field-0 in
    let was = c.loop-at.invariant in
    let here : cell_in cells c.loop-at.at ≡ item_cell signals x = cell_there signals items c.loop-at.at x c.loop-at-test.true (sym c.index-items-at.is) in
    let P : Cell BitRef → Type 0 = λ y. AreSpansOf lengths y.reads r in
    record {
      many = ap length c.in_ok-push.ensures.items ∙ length_push c.loop-at.all.items r ∙ ap (λ n. n + 1) was.many;
      spans = push_spans lengths cells c.loop-at.all.items c.push.new.self.items r c.loop-at.at c.in_ok-push.ensures.items was.many was.spans (subst P (sym here) c.in_ok-item_reads.ensures.spans);
      below = push_within (sum lengths) c.loop-at.all.items c.push.new.self.items r c.in_ok-push.ensures.items was.below c.in_ok-item_reads.ensures.below;
    }
