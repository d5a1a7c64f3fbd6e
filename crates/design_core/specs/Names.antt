-- Designs seen by the names of their bits.
use Rattle.std.specs.Prelude.{◌≡◌, ℕ, Bool, true, List, map, Option, Some, None}
use Rattle.design_core.specs.Cells.{Bitmap, Cell, In, IsSlice}
use Rattle.design_core.specs.Rows.{Row, IsAmong, IsChecked}
use Rattle.design_core.specs.Leaves.{Leaf, stored, input}

-- d is the cell c under names: `to` names a bit, `back` finds it
pub record IsNamed {B N : Type 0} (to : B → N) (back : N → B) (c : Cell B) (d : Cell N) : Type 0 where
  pub drives_same : (b : B) → d.drives (to b) ≡ c.drives b
  pub drives_in : (n : N) → d.drives n ≡ true → to (back n) ≡ n
  pub clocked_same : d.clocked ≡ c.clocked
  pub within_same : (s σ : Bitmap N) (b : B) → d.within s σ (to b) ≡ c.within (λ a. s (to a)) (λ a. σ (to a)) b
  pub after_same : (s σ : Bitmap N) (b : B) → d.after s σ (to b) ≡ c.after (λ a. s (to a)) (λ a. σ (to a)) b

-- two lists have the same cells under names
pub record AreNamed {B N : Type 0} (to : B → N) (back : N → B) (E : List (Cell B)) (F : List (Cell N)) : Type 0 where
  pub returns : (b : B) → back (to b) ≡ b
  pub there : (c : Cell B) → In c E → (d : Cell N) × In d F × IsNamed to back c d
  pub here : (d : Cell N) → In d F → (c : Cell B) × In c E × IsNamed to back c d

-- a row under names
abbrev pub named_row : {B N : Type 0} → (B → N) → Row B → Row N
named_row to row = record {
  pairs = map (λ p. (to p.0, to p.1)) row.pairs;
  latency = row.latency;
  conditions = map (λ c. (to c.0, c.1)) row.conditions;
}

-- a leaf under names
abbrev pub named_leaf : {B N : Type 0} → (B → N) → Leaf B → Leaf N
named_leaf to (stored b) = stored (to b)
named_leaf to (input k b) = input k (to b)

-- neither has power-up values, or the registers of the slice have the same ones by name
abbrev pub SamePower : {B N : Type 0} → List (Cell N) → (N → B) → Option (Bitmap N) → Option (Bitmap B) → Type 0
SamePower W back None None = Unit {0}
SamePower W back None (Some p) = ⊥
SamePower W back (Some q) None = ⊥
SamePower W back (Some q) (Some p) = (d : Cell _) → In d W → (n : _) → d.drives n ≡ true → q n ≡ p (back n)

-- a checked design with what is held, its power-up values, a row and the slice of that row, which by the names of bits are those given:
-- the cells of the slice, the held bits, the power-up values and the row
pub record Seen {N : Type 0} (B : Type 0) (W : List (Cell N)) (named : ℕ → N → Option Bool) (power : Option (Bitmap N)) (row : Row N) : Type 0 where
  pub to : B → N
  pub back : N → B
  pub all : List (Cell B)
  pub slice : List (Cell B)
  pub read : B → Bool
  pub held : ℕ → B → Option Bool
  pub power_up : Option (Bitmap B)
  pub own_row : Row B
  pub checked : IsChecked all held
  pub is_slice : IsSlice all slice read
  pub among : IsAmong read own_row
  pub cells_named : AreNamed to back slice W
  pub held_named : (k : ℕ) (b : B) → named k (to b) ≡ held k b
  pub held_there : (k : ℕ) (n : N) (v : Bool) → named k n ≡ Some v → to (back n) ≡ n
  pub power_named : SamePower W back power power_up
  pub row_named : named_row to own_row ≡ row
