-- The right verdict on a row: proved where no window breaks it, else refuted by the earliest and first breaking run.
use Rattle.std.specs.Prelude.{◌≡◌, ℕ, ◌+◌, ◌<◌, Bool, false, not, ◌&&◌, ◌||◌, if◌then◌else◌, List, [], ◌∷◌, Option, Some, is_none}
use Rattle.std.specs.List.{list_any}
use Rattle.design_core.specs.declared.place.BitRef.{BitRef}
use Rattle.design_core.specs.Core.{same_bit}
use Rattle.design_core.specs.Cells.{Bitmap, Cell, driven, read_by, IsSliceOf}
use Rattle.design_core.specs.Rows.{Row, row_bit, CanBreak, IsValid, IsKind, refuted as refuted_at}
use Rattle.design_core.specs.Leaves.{Leaf, stored, input, leaves_in_order, IsFirstBreaking}

-- a verdict: proved; refuted at a launch, with the cycles and free bits that are 1
pub data Verdict : Type 0 where
  proved : Verdict
  refuted : ℕ → List (ℕ × BitRef) → Verdict

-- the bits that a row names
abbrev pub named : Row BitRef → BitRef → Bool
named row b = list_any (λ p. same_bit b p.0 || same_bit b p.1) row.pairs || list_any (λ c. same_bit b c.0) row.conditions

-- the free input bits that a row names or its slice reads
abbrev pub is_leaf : List (Cell BitRef) → (ℕ → BitRef → Option Bool) → Row BitRef → List (Cell BitRef) → BitRef → Bool
is_leaf E run row slice b = (not (driven E b) && is_none (run 0 b)) && (named row b || read_by slice b)

-- the inputs with value 1, in the order of the leaves
abbrev pub ones_of : (ℕ → Bitmap BitRef) → List (Leaf BitRef) → List (ℕ × BitRef)
ones_of σ [] = []
ones_of σ (stored b ∷ ls) = ones_of σ ls
ones_of σ (input k b ∷ ls) = if σ k b then (k, b) ∷ ones_of σ ls else ones_of σ ls

-- the first run that breaks the row at a launch: it breaks the lowest bit that some run breaks there, and among these runs its leaves
-- come first in their order, 0 before 1, with every other free input 0. `bits` has all bits in order
pub record IsFirstRun (E : List (Cell BitRef)) (bits : List BitRef) (run : ℕ → BitRef → Option Bool) (power_up : Bitmap BitRef) (row : Row BitRef) (launch : ℕ)
    (ones : List (ℕ × BitRef)) : Type 0 where
  pub lowest : ℕ
  pub none_lower : (j : ℕ) → j < lowest → ¬ CanBreak E run (Some power_up) (row_bit row j) launch
  pub slice : List (Cell BitRef)
  pub is_slice : IsSliceOf E (named (row_bit row lowest)) slice
  pub s : ℕ → Bitmap BitRef
  pub σ : ℕ → Bitmap BitRef
  pub first : IsFirstBreaking E run (Some power_up) (row_bit row lowest) launch
      (leaves_in_order bits (λ b. false) (is_leaf E run (row_bit row lowest) slice) (launch + row.latency)) s σ
  pub printed : ones ≡ ones_of σ (leaves_in_order bits (λ b. false) (is_leaf E run (row_bit row lowest) slice) (launch + row.latency))

-- the verdict is right for the row, where launches are sought from `first` to `first + depth`
abbrev pub IsRight : List (Cell BitRef) → List BitRef → (ℕ → BitRef → Option Bool) → (ℕ → BitRef → Option Bool) → Bitmap BitRef → Row BitRef → ℕ → ℕ → Verdict → Type 0
IsRight E bits window run power_up row first depth proved = IsValid E window row
IsRight E bits window run power_up row first depth (refuted t ones) =
    (¬ IsValid E window row) × IsKind E window run power_up row first depth (refuted_at t) × IsFirstRun E bits run power_up row t ones
