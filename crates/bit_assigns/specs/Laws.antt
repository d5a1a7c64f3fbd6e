-- What the pieces of a plain assign are together: formed items that weigh what the assign weighs, and mean what it means.
use Rattle.std.specs.Prelude.{◌≡◌, ℕ, Bool, true, false, List, [], ◌∷◌, ◌++◌, map, sum, Option}
use Rattle.std.specs.List.{list_all}
use Rattle.design_core.specs.declared.items.Item.TheVariants as item
use Rattle.design_core.specs.declared.place.BitRef.{BitRef}
use Rattle.design_core.specs.declared.signals.Signal.{Signal}
use Rattle.design_core.specs.declared.tree.DExpr.{DExpr}
use Rattle.design_core.specs.declared.tree.DLeft.{DLeft}
use Rattle.design_core.specs.Core.{Assignment, Place, bit, in_signal, lost, places, value}
use Rattle.design_core.specs.Terms.{left, term}
use Rattle.design_core.specs.Cells.{Cell, In, IsTrace, Settled, driven, next}
use Rattle.design_core.specs.Parts.{item_cell, length_at}
use Rattle.design_core.specs.Wellformed.{carried_weight, item_fits, signal_lengths}
use Rattle.bit_assigns.specs.declared.bits.Source.{Source}
use Rattle.bit_assigns.specs.declared.bits.Source.TheVariants as source
use Rattle.bit_assigns.specs.declared.bits.Target.{Target}
use Rattle.bit_assigns.specs.declared.bits.Target.TheVariants as target
use Rattle.bit_assigns.specs.Sides.{is_plain_left, is_plain_right, left_bits, right_bits}
use Rattle.bit_assigns.specs.Pieces.{bit_assigns}

-- what a bit is worth
abbrev pub worth : Assignment → Source → Bool
worth σ (source.Known v) = v
worth σ (source.Bit b) = σ (bit b.signal b.bit)

-- where a bit is written
abbrev pub target_place : Target → Place
target_place (target.Bit b) = in_signal (bit b.signal b.bit)
target_place (target.Outside s) = lost

-- the value of a plain right side is what its bits are worth
abbrev pub RightMeans : Type 0
RightMeans = (size : ℕ → ℕ) (σ : Assignment) (λs : List (List Bool)) (e : DExpr) → is_plain_right e ≡ true → value (term size e) σ λs ≡ map (worth σ) (right_bits e)

-- the places of a plain left side are where its bits lie
abbrev pub LeftMeans : Type 0
LeftMeans = (size : ℕ → ℕ) (σ : Assignment) (λs : List (List Bool)) (l : DLeft) → is_plain_left l ≡ true → places (left size l) σ λs ≡ map target_place (left_bits size l)

-- the assign is an item of a design with these signals and so many scopes, and both its sides are plain
pub record IsPlainAssign (signals : List Signal) (scopes scope weight : ℕ) (l : DLeft) (e : DExpr) : Type 0 where
  pub left : is_plain_left l ≡ true
  pub right : is_plain_right e ≡ true
  pub fits : item_fits (signal_lengths signals) (length_at signals) scopes (item.Assign scope weight l e) ≡ true

-- each piece is an item of the design
abbrev pub PiecesFit : Type 0
PiecesFit = (signals : List Signal) (scopes scope weight : ℕ) (l : DLeft) (e : DExpr) → IsPlainAssign signals scopes scope weight l e
    → list_all (item_fits (signal_lengths signals) (length_at signals) scopes) (bit_assigns signals scope l e) ≡ true

-- the pieces weigh together what the assign weighs
abbrev pub PiecesWeigh : Type 0
PiecesWeigh = (signals : List Signal) (scopes scope weight : ℕ) (l : DLeft) (e : DExpr) → IsPlainAssign signals scopes scope weight l e
    → sum (map carried_weight (bit_assigns signals scope l e)) ≡ weight

-- no two of the cells drive one bit
abbrev pub AreApart : {B : Type 0} → List (Cell B) → Type 0
AreApart [] = Unit {0}
AreApart {B} (c ∷ cs) = ((b : B) → c.drives b ≡ true → driven cs b ≡ false) × AreApart cs

-- one list of cells means what another does: the same bits are driven, the same assignments are settled and the same states follow, so that they have the same windows and runs
pub record MeansTheSame {B : Type 0} (E F : List (Cell B)) : Type 0 where
  pub drives : (b : B) → driven E b ≡ driven F b
  pub settles : (s i σ : B → Bool) → Settled E s i σ → Settled F s i σ
  pub settled : (s i σ : B → Bool) → Settled F s i σ → Settled E s i σ
  pub steps : (s σ : B → Bool) (b : B) → next E s σ b ≡ next F s σ b
  pub traces : (held : ℕ → B → Option Bool) (last : ℕ) (s σ : ℕ → B → Bool) → IsTrace E held last s σ → IsTrace F held last s σ
  pub traced : (held : ℕ → B → Option Bool) (last : ℕ) (s σ : ℕ → B → Bool) → IsTrace F held last s σ → IsTrace E held last s σ

-- the pieces of an assign as cells
abbrev pub piece_cells : List Signal → ℕ → DLeft → DExpr → List (Cell BitRef)
piece_cells signals scope l e = map (item_cell signals) (bit_assigns signals scope l e)

-- the pieces may stand in the place of the assign, if no bit stands twice on its left side
abbrev pub PiecesMean : Type 0
PiecesMean = (signals : List Signal) (scopes scope weight : ℕ) (l : DLeft) (e : DExpr) → IsPlainAssign signals scopes scope weight l e
    → AreApart (piece_cells signals scope l e) → (before after : List (Cell BitRef))
    → MeansTheSame (before ++ item_cell signals (item.Assign scope weight l e) ∷ after) (before ++ (piece_cells signals scope l e ++ after))

-- a piece reads no bit that the assign does not
abbrev pub PiecesRead : Type 0
PiecesRead = (signals : List Signal) (scopes scope weight : ℕ) (l : DLeft) (e : DExpr) → IsPlainAssign signals scopes scope weight l e
    → (c : Cell BitRef) → In c (piece_cells signals scope l e) → (b : BitRef) → c.reads b ≡ true → (item_cell signals (item.Assign scope weight l e)).reads b ≡ true
