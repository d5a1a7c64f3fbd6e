-- A design as cells, its cuts, and its bits in their order.
use Rattle.std.specs.Prelude.{ℕ, Bool, not, List, map}
use Rattle.std.specs.List.{filter}
use Rattle.design_core.specs.declared.place.BitRef.{BitRef}
use Rattle.design_core.specs.declared.items.Item.{Item}
use Rattle.design_core.specs.declared.design.Design.{Design}
use Rattle.design_core.specs.Cells.{Cell}
use Rattle.design_core.specs.Parts.{item_cell, scope_of, is_boxed, bits_of_signals}

-- the cells of a design, in the order of its items
abbrev pub cells : Design → List (Cell BitRef)
cells design = map (item_cell design.signals) design.items

-- the cut by a set of boxes: the items whose scope is no box and stands inside none
abbrev pub cut_items : Design → (ℕ → Bool) → List Item
cut_items design boxes = filter (λ i. not (is_boxed design.scopes boxes (scope_of i))) design.items

abbrev pub cut_cells : Design → (ℕ → Bool) → List (Cell BitRef)
cut_cells design boxes = map (item_cell design.signals) (cut_items design boxes)

-- all bits in their order
abbrev pub all_bits : Design → List BitRef
all_bits design = bits_of_signals 0 design.signals
