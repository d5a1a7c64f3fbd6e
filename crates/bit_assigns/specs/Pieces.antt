-- A plain assign in pieces: an assign for each bit of its left side.
use Rattle.std.specs.Prelude.{ℕ, false, ◌==◌, if◌then◌else◌, List, [], ◌∷◌, pos, negsuc}
use Rattle.design_core.specs.declared.items.Item.{Item}
use Rattle.design_core.specs.declared.items.Item.TheVariants as item
use Rattle.design_core.specs.declared.signals.Signal.{Signal}
use Rattle.design_core.specs.declared.tree.DBase.TheVariants as base
use Rattle.design_core.specs.declared.tree.DExpr.{DExpr}
use Rattle.design_core.specs.declared.tree.DLeft.{DLeft}
use Rattle.design_core.specs.declared.tree.DLeft.TheVariants as lefts
use Rattle.design_core.specs.declared.tree.DNode.{DNode}
use Rattle.design_core.specs.declared.tree.DNode.TheVariants as node
use Rattle.design_core.specs.Parts.{length_at}
use Rattle.bit_assigns.specs.declared.bits.SignalBit.{SignalBit}
use Rattle.bit_assigns.specs.declared.bits.Source.{Source}
use Rattle.bit_assigns.specs.declared.bits.Source.TheVariants as source
use Rattle.bit_assigns.specs.declared.bits.Target.{Target}
use Rattle.bit_assigns.specs.declared.bits.Target.TheVariants as target
use Rattle.bit_assigns.specs.Bits.{lowest_source, above_lowest}
use Rattle.bit_assigns.specs.Sides.{left_bits, right_bits}

-- an expression without a sign
abbrev pub unsigned : ℕ → DNode → DExpr
unsigned n x = record { length = n; signed = false; node = x }

-- a bit of a signal as a left side: a signal of one bit is named whole
abbrev pub bit_left : SignalBit → DLeft
bit_left b = if b.length == 1 then lefts.Whole (base.Signal b.signal) 1 else lefts.Part (base.Signal b.signal) (pos b.bit) 1

-- where a bit of a left side is written; outside of the signal nothing is
abbrev pub target_left : Target → DLeft
target_left (target.Bit b) = bit_left b
target_left (target.Outside s) = lefts.Part (base.Signal s) (negsuc 0) 1

-- a bit of a signal as an expression: a signal of one bit is named whole
abbrev pub bit_expr : SignalBit → DExpr
bit_expr b = if b.length == 1 then unsigned 1 (node.Signal b.signal) else unsigned 1 (node.Select (unsigned b.length (node.Signal b.signal)) (pos b.bit))

abbrev pub source_expr : Source → DExpr
source_expr (source.Known v) = unsigned 1 (node.Const (v ∷ []))
source_expr (source.Bit b) = bit_expr b

-- an assign of one bit, which weighs 1
abbrev pub piece : ℕ → Target → Source → Item
piece scope t s = item.Assign scope 1 (target_left t) (source_expr s)

-- one for each bit of the left side, the lowest first; a right side that has more bits is cut, and one that has fewer is 0 above
abbrev pub pieces : ℕ → List Target → List Source → List Item
pieces scope [] ss = []
pieces scope (t ∷ ts) ss = piece scope t (lowest_source ss) ∷ pieces scope ts (above_lowest ss)

unfoldable pub bit_assigns : List Signal → ℕ → DLeft → DExpr → List Item
bit_assigns signals scope l e = pieces scope (left_bits (length_at signals) l) (right_bits e)
