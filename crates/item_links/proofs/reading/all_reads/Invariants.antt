use Rattle.std.proofs.Common.{◌≡◌, ℕ, ◌<◌, [], length, map, sum, get_or}
use Rattle.design_core.specs.Parts.{item_cell}
use Rattle.design_core.specs.Wellformed.{signal_lengths}
use Rattle.item_order.specs.Spans.{AreWithin}
use Rattle.item_links.specs.Noted.{cell_in}
use Rattle.item_links.specs.Numbered.{AreSpansOf}
use Rattle.item_links.proofs.reading.all_reads.Given as goal

abbrev pub invariant-loop-at : goal.invariant-loop-at
invariant-loop-at l = record {
  many : length l.all.items ≡ l.at;
  spans : (i : ℕ) → i < l.at → AreSpansOf (signal_lengths l.signals) (cell_in (map (item_cell l.signals) l.items) i).reads (get_or l.all.items i []);
  below : AreWithin (sum (signal_lengths l.signals)) l.all.items;
}
