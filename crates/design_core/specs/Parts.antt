-- Items, scopes and signals of a design: items as cells, the boxes round a scope, and bits in their order.
use Rattle.std.specs.Prelude.{ℕ, zero, suc, Bool, false, ◌&&◌, ◌||◌, List, [], ◌∷◌, ◌++◌, map, Option, Some, None, slice_index_or}
use Rattle.std.specs.List.{list_any}
use Rattle.design_core.specs.declared.place.BitRef.{BitRef}
use Rattle.design_core.specs.declared.items.Item.{Item}
use Rattle.design_core.specs.declared.items.Item.TheVariants as item
use Rattle.design_core.specs.declared.items.DReset.{DReset}
use Rattle.design_core.specs.declared.tree.DStmt.{DStmt}
use Rattle.design_core.specs.declared.signals.Scope.{Scope}
use Rattle.design_core.specs.declared.signals.Signal.{Signal}
use Rattle.design_core.specs.Core.{bit}
use Rattle.design_core.specs.Terms.{term, left, stmt}
use Rattle.design_core.specs.Cells.{Cell}
use Rattle.design_core.specs.Items.{CoreItem, assign, comb, clocked, reset_by, cell_of}

abbrev pub clocked_of : (ℕ → ℕ) → Option DReset → DStmt → CoreItem
clocked_of size None body = clocked (stmt size body)
clocked_of size (Some r) body = reset_by r.bit r.asserted (stmt size r.branch) (stmt size body)

-- an item over core terms, where `size` gives the length of each signal
abbrev pub item_of : (ℕ → ℕ) → Item → CoreItem
item_of size (item.Assign scope weight l e) = assign (left size l) (term size e)
item_of size (item.Comb scope weight body) = comb (stmt size body)
item_of size (item.Clocked scope weight reset body) = clocked_of size reset body

-- the length of a signal, 0 for a number past the last
abbrev pub length_at : List Signal → ℕ → ℕ
length_at signals s = slice_index_or (map (λ (x : Signal). x.length) signals) s 0

-- an item of a design as a cell
abbrev pub item_cell : List Signal → Item → Cell BitRef
item_cell signals i = cell_of (item_of (length_at signals) i)

-- the scope of an item
abbrev pub scope_of : Item → ℕ
scope_of (item.Assign scope weight l e) = scope
scope_of (item.Comb scope weight body) = scope
scope_of (item.Clocked scope weight reset body) = scope

-- the scope round a scope
abbrev pub parent_of : List Scope → ℕ → Option ℕ
parent_of scopes s = slice_index_or (map (λ (x : Scope). x.parent) scopes) s None

abbrev pub where_some : (ℕ → Bool) → Option ℕ → Bool
where_some test None = false
where_some test (Some p) = test p

-- s is one of the boxes, or stands inside one within so many steps outwards
abbrev pub boxed_within : ℕ → List Scope → (ℕ → Bool) → ℕ → Bool
boxed_within zero scopes boxes s = false
boxed_within (suc steps) scopes boxes s = boxes s || where_some (boxed_within steps scopes boxes) (parent_of scopes s)

-- s is one of the boxes or stands inside one: parents have lower numbers, so that s + 1 steps are enough
abbrev pub is_boxed : List Scope → (ℕ → Bool) → ℕ → Bool
is_boxed scopes boxes s = boxed_within (suc s) scopes boxes s

-- n bits of a signal from bit k on
abbrev pub bits_from : ℕ → ℕ → ℕ → List BitRef
bits_from s k zero = []
bits_from s k (suc n) = bit s k ∷ bits_from s (suc k) n

-- all bits in their order: by the number of the signal, then from the lowest bit up
abbrev pub bits_of_signals : ℕ → List Signal → List BitRef
bits_of_signals s [] = []
bits_of_signals s (x ∷ xs) = bits_from s 0 x.length ++ bits_of_signals (suc s) xs

-- some clocked item drives the bit
abbrev pub is_register : List Signal → List Item → BitRef → Bool
is_register signals items b = list_any (λ i. (item_cell signals i).clocked && (item_cell signals i).drives b) items
