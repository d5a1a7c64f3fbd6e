-- Items on circles, and orders of items in which each stands after those that drive what it reads.
use Rattle.std.specs.Prelude.{◌≡◌, ℕ, ◌<◌, Bool, true, false, List, length, Option, Some, None, slice_index_or}
use Rattle.design_core.specs.declared.place.BitRef.{BitRef}
use Rattle.design_core.specs.Cells.{Cell, In, IsOrdered}
use Rattle.design_core.specs.Numbers.{chosen_cells}
use Rattle.item_order.specs.Circles.{IsOnce}
use Rattle.item_order.specs.Spans.{driver_in}
use Rattle.item_links.specs.Noted.{cell_in}

-- cell i reads, within the cycle, a bit that cell j drives
pub record Feeds (cells : List (Cell BitRef)) (i j : ℕ) : Type 0 where
  pub bit : BitRef
  pub is_read : (cell_in cells i).reads bit ≡ true
  pub is_driven : (cell_in cells j).drives bit ≡ true

-- cell i reads what cell j drives, or what a cell drives that leads to it
pub data Leads (cells : List (Cell BitRef)) : ℕ → ℕ → Type 0 where
  at_once : {i j : ℕ} → Feeds cells i j → Leads cells i j
  through : {i j k : ℕ} → Feeds cells i j → Leads cells j k → Leads cells i k

-- a cell drives the bit that leads back to itself
pub record IsOnCircle (cells : List (Cell BitRef)) (b : BitRef) : Type 0 where
  pub item : ℕ
  pub drives : (cell_in cells item).drives b ≡ true
  pub leads_back : Leads cells item item

-- each cell stands once in the order, after those that drive what it reads
pub record IsOrderOf (cells : List (Cell BitRef)) (order : List ℕ) : Type 0 where
  pub all : (i : ℕ) → i < length cells → In i order
  pub below : (i : ℕ) → In i order → i < length cells
  pub once : IsOnce order
  pub ordered : IsOrdered (chosen_cells cells order)

-- it is told of the driver of a bit that it stands on a circle
abbrev pub told : List Bool → Option ℕ → Bool
told circular None = false
told circular (Some i) = slice_index_or circular i false

abbrev pub is_turned : List (Option ℕ) → List Bool → ℕ → Bool
is_turned drivers circular n = told circular (driver_in drivers n)
