-- Bits moved up or down by amounts that a domain gives.
use Rattle.std.specs.Prelude.{◌≡◌, ℕ, ◌+◌, ◌^◌, ◌≤◌, Bool, true, false, not, ◌&&◌, ◌||◌, List, map, ◌⊎◌, ℤ, pos, negsuc, ◌+ℤ◌, ◌≤ℤ◌}
use Rattle.bits_core.specs.Places.{zip_with, exclusive_or, selected, shifted_left, shifted_right}
use Rattle.bits_core.specs.Numbers.{number, bits_of, sum_bits, difference_bits}
use Rattle.value_domain.specs.declared.variable.Amounts.{Amounts}
use Rattle.value_domain.specs.declared.parts.Word.{Word}
use Rattle.design_core.specs.Operators.{index_number}
use Rattle.value_domain.specs.Meaning.{Meaning}
use Rattle.value_domain.specs.Words.{IsWord}

-- n bits, moved down by r and up by l
abbrev pub joined : ℕ → ℕ → ℕ → List Bool → List Bool
joined r l n xs = zip_with (λ x y. x || y) (selected (pos 0) n (shifted_right false r xs)) (shifted_left l (selected (pos 0) n xs))

-- both amounts together move to place z: down by it, up by its negation, or past the end of every vector
abbrev pub Moves : ℕ → ℕ → ℤ → Type 0
Moves r l z = ((z ≡ pos r) × ((r ≡ 0) × (l ≡ 0) ⊎ (65536 ≤ l))) ⊎ (((z +ℤ pos l ≡ pos 0) × (65536 ≤ r)) ⊎ (((pos 65536 ≤ℤ z) ⊎ (z ≤ℤ negsuc 65535)) × (65536 ≤ r) × (65536 ≤ l)))

-- amounts of a domain, of at most 128 bits
pub record AreNarrow {S V : Type 0} (m : Meaning S V) (d : S) (a : Amounts V) : Type 0 where
  pub right_is : m.is_value d a.right
  pub left_is : m.is_value d a.left
  pub right_narrow : m.width a.right ≤ 128
  pub left_narrow : m.width a.left ≤ 128

-- amounts that move to a place under each valuation
pub record AreAmounts {S V : Type 0} (m : Meaning S V) (d : S) (a : Amounts V) (z : (ℕ → Bool) → ℤ) : Type 0 where
  pub narrow : AreNarrow m d a
  pub moves : (v : ℕ → Bool) → Moves (number (m.reads d v a.right)) (number (m.reads d v a.left)) (z v)

-- a number less an offset, modulo 2 to the length
abbrev pub less : ℤ → ℕ → List Bool → List Bool
less (pos c) n xs = difference_bits xs (bits_of n c)
less (negsuc c) n xs = sum_bits xs (bits_of n (c + 1))

-- the bits of a list, and where a mask has 1 those of another that has 0 elsewhere
abbrev pub blended : List Bool → List Bool → List Bool → List Bool
blended whole mask bits = zip_with (λ x y. x || y) (zip_with (λ x y. x && y) whole (map not mask)) bits

-- far from every vector, whatever offset of 64 bits is taken off
abbrev pub IsFar : ℤ → Type 0
IsFar i = (pos (2 ^ 100) ≤ℤ i) ⊎ (i ≤ℤ negsuc (2 ^ 100))

-- two indices that are the same, or both far from every vector
abbrev pub IsNear : ℤ → ℤ → Type 0
IsNear i j = (i ≡ j) ⊎ (IsFar i × IsFar j)

-- whether an index of 128 bits is far: without a sign where its highest bit is 1, else where its two highest bits differ
abbrev pub far_tell : Bool → List Bool → List Bool
far_tell true xs = zip_with exclusive_or (selected (pos 127) 1 xs) (selected (pos 126) 1 xs)
far_tell false xs = selected (pos 127) 1 xs

-- an index of at most 127 bits that selects the same
pub record IsNearer {S V : Type 0} (m : Meaning S V) (old new : S) (signed : Bool) (index near : Word V) : Type 0 where
  pub is_word : IsWord m new near
  pub narrow : near.length ≤ 127
  pub near_by : (v : ℕ → Bool) → IsNear (index_number signed (m.reads old v index.value)) (index_number signed (m.reads new v near.value))
