use Rattle.std.proofs.Common.{ℕ, List, take}
use Rattle.design_core.specs.Cells.{In}
use Rattle.item_bits.specs.declared.pieces.Piece.{Piece}
use Rattle.item_bits.specs.Pieces.{some_has}
use Rattle.item_links.specs.Numbered.{AreBelow, AreBits, AreSpansOf, AreStarts, HasRoom}
use Rattle.item_links.proofs.reading.spans_of.Given as goal

abbrev pub invariant-loop-at : goal.invariant-loop-at
invariant-loop-at l = record {
  spans : (lengths : List ℕ) → AreStarts lengths l.starts → AreBits lengths (some_has l.pieces) → AreSpansOf lengths (some_has (take l.at l.pieces)) l.all.items;
  below : (bits : ℕ) → ((p : Piece) → In p l.pieces → HasRoom l.starts bits p) → AreBelow bits l.all.items;
}
