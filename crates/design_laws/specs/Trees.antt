-- The laws of trees and of the numbers of bits, each as one statement.
use Rattle.std.specs.Prelude.{◌≡◌, ℕ, ◌<◌, true, nat_lt, List, ◌++◌, length, slice_index_or, ◌⊎◌}
use Rattle.design_core.specs.declared.place.BitRef.{BitRef}
use Rattle.design_core.specs.declared.tree.DExpr.{DExpr}
use Rattle.design_core.specs.declared.tree.DLeft.{DLeft}
use Rattle.design_core.specs.declared.tree.DStmt.{DStmt}
use Rattle.design_core.specs.declared.items.Item.{Item}
use Rattle.design_core.specs.declared.signals.Signal.{Signal}
use Rattle.design_core.specs.declared.design.Design.{Design}
use Rattle.design_core.specs.Cells.{In}
use Rattle.design_core.specs.Formed.{sized_expr, sized_left, sized_stmt}
use Rattle.design_core.specs.Items.{cell_of}
use Rattle.design_core.specs.Mentions.{Signals, names_of, names_of_left, names_of_stmt, names_of_item}
use Rattle.design_core.specs.Numbers.{is_bit, number, named_bit}
use Rattle.design_core.specs.Parts.{item_of, item_cell, length_at, bits_of_signals}
use Rattle.design_core.specs.Renamed.{renamed, renamed_left, renamed_stmt}
use Rattle.design_core.specs.Renumbered.{renumbered_expr, renumbered_left, renumbered_stmt}
use Rattle.design_core.specs.Terms.{term, left, stmt}
use Rattle.design_core.specs.Wellformed.{signal_lengths, tree_fits, weight_of}
use Rattle.design_laws.specs.Kinds.{KeepsKind, IsOverBits, length_in}

-- a bit's number is its place in the order of bits
abbrev pub NumberIsPlace : Type 0
NumberIsPlace = (signals : List Signal) (b : BitRef) → is_bit (signal_lengths signals) b ≡ true
    → (number (signal_lengths signals) b < length (bits_of_signals 0 signals)) × (named_bit (bits_of_signals 0 signals) (number (signal_lengths signals) b) ≡ b)

-- so no two bits have one number
abbrev pub NumberOnce : Type 0
NumberOnce = (lengths : List ℕ) (a b : BitRef) → is_bit lengths a ≡ true → is_bit lengths b ≡ true → number lengths a ≡ number lengths b → a ≡ b

-- numbers have the order of bits: by the signal, and then from the lowest bit up
abbrev pub NumberOrder : Type 0
NumberOrder = (lengths : List ℕ) (a b : BitRef) → is_bit lengths a ≡ true → (a.signal < b.signal) ⊎ ((a.signal ≡ b.signal) × (a.bit < b.bit))
    → number lengths a < number lengths b

-- a formed item reads and drives bits of the signals alone
abbrev pub ItemHasBits : Type 0
ItemHasBits = (lengths : List ℕ) (i : Item) → tree_fits lengths (length_in lengths) i ≡ true → IsOverBits lengths (cell_of (item_of (length_in lengths) i))

abbrev pub DesignHasBits : Type 0
DesignHasBits = (design : Design) (i : Item) → In i design.items → IsOverBits (signal_lengths design.signals) (item_cell design.signals i)

-- a formed item has writes of its own kind, and names no locals
abbrev pub ItemKeepsKind : Type 0
ItemKeepsKind = (lengths : List ℕ) (size : ℕ → ℕ) (i : Item) → tree_fits lengths size i ≡ true → KeepsKind (item_of size i)

abbrev pub DesignKeepsKind : Type 0
DesignKeepsKind = (design : Design) (i : Item) → In i design.items → KeepsKind (item_of (length_at design.signals) i)

-- under a map of signals, two lists of lengths agree on a set of signals: each has one length in both, or stands in neither
abbrev pub AgreeOn : (ℕ → ℕ) → List ℕ → List ℕ → Signals → Type 0
AgreeOn ρ vs ws names = (s : ℕ) → names s ≡ true → (nat_lt (ρ s) (length ws) ≡ nat_lt s (length vs)) × (slice_index_or ws (ρ s) 0 ≡ slice_index_or vs s 0)

-- a tree under other numbers, over lengths that agree on the signals that it names: it has its length, it is formed where it was and weighs what it did, and it is the renamed term
abbrev pub ExprIsRenumbered : Type 0
ExprIsRenumbered = (ρ : ℕ → ℕ) (vs ws : List ℕ) (e : DExpr) → AgreeOn ρ vs ws (names_of e)
    → (sized_expr ws (renumbered_expr ρ e) ≡ sized_expr vs e) × (term (length_in ws) (renumbered_expr ρ e) ≡ renamed ρ (term (length_in vs) e))

abbrev pub LeftIsRenumbered : Type 0
LeftIsRenumbered = (ρ : ℕ → ℕ) (vs ws : List ℕ) (l : DLeft) → AgreeOn ρ vs ws (names_of_left l)
    → (sized_left ws (renumbered_left ρ l) ≡ sized_left vs l) × (left (length_in ws) (renumbered_left ρ l) ≡ renamed_left ρ (left (length_in vs) l))

abbrev pub StmtIsRenumbered : Type 0
StmtIsRenumbered = (ρ : ℕ → ℕ) (vs ws : List ℕ) (s : DStmt) → AgreeOn ρ vs ws (names_of_stmt s)
    → (sized_stmt ws (renumbered_stmt ρ s) ≡ sized_stmt vs s) × (stmt (length_in ws) (renumbered_stmt ρ s) ≡ renamed_stmt ρ (stmt (length_in vs) s))

-- the map that keeps each number
abbrev pub itself : ℕ → ℕ
itself s = s

-- under the same numbers a tree is itself
abbrev pub RenumberedSame : Type 0
RenumberedSame = ((e : DExpr) → renumbered_expr itself e ≡ e) × ((l : DLeft) → renumbered_left itself l ≡ l) × ((s : DStmt) → renumbered_stmt itself s ≡ s)

-- so an item is formed where it was, weighs what it did and is the same core item, over any lengths that agree on the signals that it names
abbrev pub ItemByNames : Type 0
ItemByNames = (vs ws : List ℕ) (i : Item) → AgreeOn itself vs ws (names_of_item i)
    → (tree_fits ws (length_in ws) i ≡ tree_fits vs (length_in vs) i) × (weight_of ws i ≡ weight_of vs i) × (item_of (length_in ws) i ≡ item_of (length_in vs) i)

-- a formed item names signals of the list alone
abbrev pub ItemNamesOwn : Type 0
ItemNamesOwn = (vs : List ℕ) (size : ℕ → ℕ) (i : Item) → tree_fits vs size i ≡ true → (s : ℕ) → names_of_item i s ≡ true → nat_lt s (length vs) ≡ true

-- so what is formed over some signals is formed over these and more, weighs what it did and is the same core item
abbrev pub ItemOverMore : Type 0
ItemOverMore = (vs more : List ℕ) (i : Item) → tree_fits vs (length_in vs) i ≡ true
    → (tree_fits (vs ++ more) (length_in (vs ++ more)) i ≡ true) × (weight_of (vs ++ more) i ≡ weight_of vs i) × (item_of (length_in (vs ++ more)) i ≡ item_of (length_in vs) i)
