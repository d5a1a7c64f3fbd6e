-- Bits by their numbers: where each signal begins, and pieces of signals as spans of numbers.
use Rattle.std.specs.Prelude.{◌≡◌, ℕ, ◌+◌, ◌<◌, ◌≤◌, Bool, true, List, All, length, slice_index_or}
use Rattle.design_core.specs.declared.place.BitRef.{BitRef}
use Rattle.design_core.specs.Numbers.{is_bit, number, first_number}
use Rattle.item_bits.specs.declared.pieces.Piece.{Piece}
use Rattle.item_order.specs.declared.spans.Span.{Span}
use Rattle.item_order.specs.Spans.{some_holds}

-- the number of each signal's lowest bit, and last the number of all bits
pub record AreStarts (lengths starts : List ℕ) : Type 0 where
  pub many : length starts ≡ length lengths + 1
  pub begins : (s : ℕ) → s ≤ length lengths → slice_index_or starts s 0 ≡ first_number lengths s

-- these are bits of the signals
abbrev pub AreBits : List ℕ → (BitRef → Bool) → Type 0
AreBits lengths f = (b : BitRef) → f b ≡ true → is_bit lengths b ≡ true

-- a piece with bits is one of a signal that has a start, and ends among the first so many numbers
abbrev pub HasRoom : List ℕ → ℕ → Piece → Type 0
HasRoom starts bits p = p.from < p.to → (p.signal + 1 < length starts) × (slice_index_or starts p.signal 0 + p.to ≤ bits)

-- spans among the first so many numbers
abbrev pub AreBelow : ℕ → List Span → Type 0
AreBelow bits spans = All (λ (s : Span). s.to ≤ bits) spans

-- spans have the numbers of these bits, and no others
pub record AreSpansOf (lengths : List ℕ) (f : BitRef → Bool) (spans : List Span) : Type 0 where
  pub has : (b : BitRef) → f b ≡ true → (is_bit lengths b ≡ true) × (some_holds spans (number lengths b) ≡ true)
  pub only : (n : ℕ) → some_holds spans n ≡ true → (b : BitRef) × ((is_bit lengths b ≡ true) × (number lengths b ≡ n) × (f b ≡ true))
