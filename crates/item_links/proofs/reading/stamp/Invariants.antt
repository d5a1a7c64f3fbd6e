use Rattle.std.proofs.Common.{take}
use Rattle.item_bits.specs.Pieces.{some_has}
use Rattle.item_links.specs.Owned.{AreStamped}
use Rattle.item_links.proofs.reading.stamp.Given as goal

abbrev pub invariant-loop-at : goal.invariant-loop-at
invariant-loop-at l = AreStamped l.stamps (some_has (take l.at l.pieces)) l.item
