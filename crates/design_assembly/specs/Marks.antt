-- Sets of bits as rows of truth values.
use Rattle.std.specs.Prelude.{◌≡◌, ℕ, Bool, true, false, List, [], map, length, slice_index_or, slice_set}
use Rattle.design_core.specs.Numbers.{is_bit}
use Rattle.design_core.specs.declared.place.BitRef.{BitRef}
use Rattle.design_assembly.specs.declared.marks.Marks.{Marks}

-- a row for each signal
abbrev pub rows_of : Marks → List (List Bool)
rows_of m = map (λ r. r.items) m.rows.items

-- the mark of a bit
abbrev pub marked : List (List Bool) → BitRef → Bool
marked rows b = slice_index_or (slice_index_or rows b.signal []) b.bit false

-- the rows with one mark changed
abbrev pub with_mark : List (List Bool) → BitRef → Bool → List (List Bool)
with_mark rows b v = slice_set rows b.signal (slice_set (slice_index_or rows b.signal []) b.bit v)

-- rows of these lengths that have the bits of f
pub record AreMarks (vs : List ℕ) (rows : List (List Bool)) (f : BitRef → Bool) : Type 0 where
  pub lengths : map length rows ≡ vs
  pub marks : (b : BitRef) → is_bit vs b ≡ true → marked rows b ≡ f b

abbrev pub IsSet : List ℕ → Marks → (BitRef → Bool) → Type 0
IsSet vs m f = AreMarks vs (rows_of m) f
