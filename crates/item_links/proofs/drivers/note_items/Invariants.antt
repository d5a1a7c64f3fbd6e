use Rattle.std.proofs.Common.{map}
use Rattle.design_core.specs.Parts.{item_cell}
use Rattle.design_core.specs.Wellformed.{signal_lengths}
use Rattle.item_links.specs.Noted.{AreNoted, first_drives}
use Rattle.item_links.proofs.drivers.note_items.Given as goal

abbrev pub invariant-loop-at : goal.invariant-loop-at
invariant-loop-at l = AreNoted (signal_lengths l.signals) (first_drives (map (item_cell l.signals) l.items) l.at) l.drivers l.twice
