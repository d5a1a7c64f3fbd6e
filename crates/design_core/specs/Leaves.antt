-- Leaf bits of a question, their order and values, and the first breaking ones.
use Rattle.std.specs.Prelude.{◌≡◌, ℕ, suc, ◌≤◌, Bool, true, false, List, [], ◌∷◌, ◌++◌, map, Option, None}
use Rattle.std.specs.List.{filter, flat_map, range_with_len}
use Rattle.design_core.specs.Cells.{Bitmap, Cell, In, driven, IsTrace}
use Rattle.design_core.specs.Rows.{Row, Query, breaks, last_of, Hits, Begins, CanHit}

-- a register of the first cycle, or an input in a cycle
pub data Leaf (B : Type 0) : Type 0 where
  stored : B → Leaf B
  input : ℕ → B → Leaf B

-- registers first, then inputs by cycle, each in the order of bits; `bits` has all bits in order, and the cycles are 0 to last
abbrev pub leaves_in_order : {B : Type 0} → List B → (B → Bool) → (B → Bool) → ℕ → List (Leaf B)
leaves_in_order bits registers inputs last =
    map stored (filter registers bits) ++ flat_map (λ k. map (input k) (filter inputs bits)) (range_with_len 0 (suc last))

-- the value of a leaf in a window or run
abbrev pub leaf_value : {B : Type 0} → (ℕ → Bitmap B) → (ℕ → Bitmap B) → Leaf B → Bool
leaf_value s σ (stored b) = s 0 b
leaf_value s σ (input k b) = σ k b

-- some window or run has what is sought, with these values of the leaves
pub record HitsWith {B : Type 0} (E : List (Cell B)) (held : ℕ → B → Option Bool) (power_up : Option (Bitmap B)) (query : Query B)
    (leaves : List (Leaf B)) (values : List Bool) : Type 0 where
  pub can : CanHit E held power_up query
  pub has : map (leaf_value can.s can.σ) leaves ≡ values

-- the first list has 0 and the second 1 at the first place where they differ, or they differ nowhere
abbrev pub IsNoLater : List Bool → List Bool → Type 0
IsNoLater [] bs = Unit {0}
IsNoLater (a ∷ as') [] = Unit {0}
IsNoLater (false ∷ as') (true ∷ bs) = Unit {0}
IsNoLater (true ∷ as') (false ∷ bs) = ⊥
IsNoLater (true ∷ as') (true ∷ bs) = IsNoLater as' bs
IsNoLater (false ∷ as') (false ∷ bs) = IsNoLater as' bs

-- the first values of the leaves with which some window or run has what is sought
pub record IsFirstHit {B : Type 0} (E : List (Cell B)) (held : ℕ → B → Option Bool) (power_up : Option (Bitmap B)) (query : Query B)
    (leaves : List (Leaf B)) (values : List Bool) : Type 0 where
  pub hits : HitsWith E held power_up query leaves values
  pub none_before : (other : List Bool) → HitsWith E held power_up query leaves other → IsNoLater values other

-- the first window or run that has what is sought: the one with these values, in which each other input that is not held,
-- and in a window each other register at its beginning, is 0
pub record IsFirstTrace {B : Type 0} (E : List (Cell B)) (held : ℕ → B → Option Bool) (power_up : Option (Bitmap B)) (query : Query B)
    (leaves : List (Leaf B)) (s σ : ℕ → Bitmap B) : Type 0 where
  pub trace : IsTrace E held (last_of query) s σ
  pub begins : Begins E power_up (s 0)
  pub hits : Hits query σ
  pub first : IsFirstHit E held power_up query leaves (map (leaf_value s σ) leaves)
  pub other_inputs : (k : ℕ) → k ≤ last_of query → (b : B) → driven E b ≡ false → held k b ≡ None → ¬ In (input k b) leaves → σ k b ≡ false
  pub other_registers : power_up ≡ None → (c : Cell B) → In c E → c.clocked ≡ true → (b : B) → c.drives b ≡ true → ¬ In (stored b) leaves → s 0 b ≡ false

-- the same of a row at a launch: the values with which some window or run breaks it, the first of them, and the first that breaks it
abbrev pub BreaksWith : {B : Type 0} → List (Cell B) → (ℕ → B → Option Bool) → Option (Bitmap B) → Row B → ℕ → List (Leaf B) → List Bool → Type 0
BreaksWith E held power_up row launch = HitsWith E held power_up (breaks row launch)

abbrev pub IsFirstBreak : {B : Type 0} → List (Cell B) → (ℕ → B → Option Bool) → Option (Bitmap B) → Row B → ℕ → List (Leaf B) → List Bool → Type 0
IsFirstBreak E held power_up row launch = IsFirstHit E held power_up (breaks row launch)

abbrev pub IsFirstBreaking : {B : Type 0} → List (Cell B) → (ℕ → B → Option Bool) → Option (Bitmap B) → Row B → ℕ → List (Leaf B)
    → (ℕ → Bitmap B) → (ℕ → Bitmap B) → Type 0
IsFirstBreaking E held power_up row launch = IsFirstTrace E held power_up (breaks row launch)

-- leaves among R: inputs in the cycles 0 to last, and registers in windows alone
abbrev pub IsLeafOf : {B : Type 0} → (B → Bool) → ℕ → Option (Bitmap B) → Leaf B → Type 0
IsLeafOf R last p (stored b) = p ≡ None
IsLeafOf R last p (input k b) = (k ≤ last) × (R b ≡ true)
