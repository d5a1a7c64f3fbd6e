use Rattle.std.proofs.Common.{ℕ, List, Bool, ◌&&◌, not, length, take}
use Rattle.design_core.specs.declared.place.BitRef.{BitRef}
use Rattle.item_bits.specs.Pieces.{some_has}
use Rattle.item_links.specs.Numbered.{AreBelow, AreBits, AreSpansOf, AreStarts}
use Rattle.item_links.specs.Owned.{AreStamped, IsOwned}
use Rattle.item_links.proofs.reading.others_of.Given as goal

abbrev pub invariant-loop-at : goal.invariant-loop-at
invariant-loop-at l = record {
  spans : (lengths : List ℕ) (own : BitRef → Bool) → AreStarts lengths l.starts → AreBits lengths (some_has l.pieces) → IsOwned lengths l.drivers l.item own → AreStamped l.stamps own l.item
      → AreSpansOf lengths (λ b. some_has (take l.at l.pieces) b && not (own b)) l.all.items;
  below : AreBelow (length l.drivers) l.all.items;
}
