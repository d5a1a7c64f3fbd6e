-- The graph of what items read and drive, by the numbers of bits.
use Rattle.std.specs.Prelude.{◌≡◌, ℕ, true, List, Some}
use Rattle.design_core.specs.declared.place.BitRef.{BitRef}
use Rattle.design_core.specs.Cells.{Cell}
use Rattle.design_core.specs.Numbers.{is_bit, number}
use Rattle.item_order.specs.Circles.{Graph}
use Rattle.item_links.specs.Noted.{cell_in}

-- a graph over the numbers of bits is that of cells: it has the bits that they read within the cycle and drive, and no others
pub record IsGraphOf (lengths : List ℕ) (cells : List (Cell BitRef)) (g : Graph) : Type 0 where
  pub reads : (i : ℕ) (b : BitRef) → (cell_in cells i).reads b ≡ true → (is_bit lengths b ≡ true) × (g.reads i (number lengths b) ≡ true)
  pub read_back : (i n : ℕ) → g.reads i n ≡ true → (b : BitRef) × ((is_bit lengths b ≡ true) × (number lengths b ≡ n) × ((cell_in cells i).reads b ≡ true))
  pub driver : (i : ℕ) (b : BitRef) → (cell_in cells i).drives b ≡ true → (is_bit lengths b ≡ true) × (g.driver (number lengths b) ≡ Some i)
  pub driven_back : (n i : ℕ) → g.driver n ≡ Some i → (b : BitRef) × ((is_bit lengths b ≡ true) × (number lengths b ≡ n) × ((cell_in cells i).drives b ≡ true))
