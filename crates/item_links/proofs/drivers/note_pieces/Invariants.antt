use Rattle.std.proofs.Common.{ℕ, List, Bool, take}
use Rattle.design_core.specs.declared.place.BitRef.{BitRef}
use Rattle.item_bits.specs.Pieces.{some_has}
use Rattle.item_links.specs.Noted.{AreNoted}
use Rattle.item_links.specs.Numbered.{AreBits, AreStarts}
use Rattle.item_links.proofs.NotedLaws.{and_also}
use Rattle.item_links.proofs.drivers.note_pieces.Given as goal

abbrev pub invariant-loop-at : goal.invariant-loop-at
invariant-loop-at l = (lengths : List ℕ) (d : ℕ → BitRef → Bool) → AreStarts lengths l.starts → AreBits lengths (some_has l.pieces) → AreNoted lengths d l.initial.drivers l.initial.twice
    → AreNoted lengths (and_also d l.item (some_has (take l.at l.pieces))) l.drivers l.twice
