-- Four signals of one bit, rst, d, y and q: assign y = d, and q that takes y on the clock and 1 while rst is 1.
use Rattle.std.specs.Prelude.{ℕ, true, false, List, [], ◌∷◌, Some}
use Rattle.bits_core.specs.Numbers.{bits_of}
use Rattle.design_core.specs.declared.tree.DBase.TheVariants as base
use Rattle.design_core.specs.declared.tree.DExpr.{DExpr}
use Rattle.design_core.specs.declared.tree.DNode.TheVariants as node
use Rattle.design_core.specs.declared.tree.DLeft.{DLeft}
use Rattle.design_core.specs.declared.tree.DLeft.TheVariants as lefts
use Rattle.design_core.specs.declared.tree.DStmt.{DStmt}
use Rattle.design_core.specs.declared.tree.DStmt.TheVariants as stmts
use Rattle.design_core.specs.declared.items.Item.{Item}
use Rattle.design_core.specs.declared.items.Item.TheVariants as item
use Rattle.design_core.specs.declared.items.DReset.{DReset}
use Rattle.design_core.specs.Core.{bit}

abbrev pub lengths : List ℕ
lengths = 1 ∷ 1 ∷ 1 ∷ 1 ∷ []

-- a whole signal, read and written, and the constant 1
abbrev pub seen : ℕ → DExpr
seen s = record { length = 1; signed = false; node = node.Signal s }

abbrev pub whole : ℕ → DLeft
whole s = lefts.Whole (base.Signal s) 1

abbrev pub one : DExpr
one = record { length = 1; signed = false; node = node.Const (bits_of 1 1) }

-- assign y = d
abbrev pub assigned : Item
assigned = item.Assign 0 1 (whole 2) (seen 1)

-- always @(posedge clk or posedge rst) if (rst) q <= 1; else q <= y
abbrev pub stored : DExpr → DStmt
stored e = stmts.Write (whole 3) e false

abbrev pub reset : DReset
reset = record { bit = bit 0 0; asserted = true; test = seen 0; branch = stored one }

abbrev pub register : Item
register = item.Clocked 0 4 (Some reset) (stored (seen 2))

abbrev pub items : List Item
items = assigned ∷ register ∷ []
