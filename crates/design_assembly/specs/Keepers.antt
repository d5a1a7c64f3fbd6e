-- The items that keep bits with a power-up value.
use Rattle.std.specs.Prelude.{ℕ, false, List, map, slice_index_or, pos, None}
use Rattle.std.specs.List.{filter}
use Rattle.design_core.specs.declared.place.BitRef.{BitRef}
use Rattle.design_core.specs.declared.signals.Signal.{Signal}
use Rattle.design_core.specs.declared.items.Item.{Item}
use Rattle.design_core.specs.declared.items.Item.TheVariants as item
use Rattle.design_core.specs.declared.items.PowerUp.{PowerUp}
use Rattle.design_core.specs.declared.tree.DBase.TheVariants as base
use Rattle.design_core.specs.declared.tree.DExpr.{DExpr}
use Rattle.design_core.specs.declared.tree.DNode.TheVariants as node
use Rattle.design_core.specs.declared.tree.DLeft.TheVariants as lefts
use Rattle.design_core.specs.declared.tree.DStmt.{DStmt}
use Rattle.design_core.specs.declared.tree.DStmt.TheVariants as stmts
use Rattle.design_core.specs.Parts.{length_at, bits_of_signals}
use Rattle.design_assembly.specs.Power.{is_kept}

abbrev pub scope_at : List Signal → ℕ → ℕ
scope_at signals s = slice_index_or (map (λ (x : Signal). x.scope) signals) s 0

-- a signal, and a bit of it
abbrev pub whole : List Signal → ℕ → DExpr
whole signals s = record { length = length_at signals s; signed = false; node = node.Signal s }

abbrev pub own_bit : List Signal → BitRef → DExpr
own_bit signals b = record { length = 1; signed = false; node = node.Select (whole signals b.signal) (pos b.bit) }

-- a bit is written its own value
abbrev pub keeps : List Signal → BitRef → DStmt
keeps signals b = stmts.Write (lefts.Part (base.Signal b.signal) (pos b.bit) 1) (own_bit signals b) false

-- the item that keeps a bit, in the scope of its signal
abbrev pub keeper_of : List Signal → BitRef → Item
keeper_of signals b = item.Clocked (scope_at signals b.signal) 1 None (keeps signals b)

-- the items that keep bits, in the order of bits
abbrev pub keepers : List Signal → List Item → List PowerUp → List Item
keepers signals items inits = map (keeper_of signals) (filter (is_kept signals items inits) (bits_of_signals 0 signals))
