-- A tree under other numbers of signals: each signal that it names has the number that a map gives it, and all else is as it was.
use Rattle.std.specs.Prelude.{ℕ, List, slice_index_or, Option, Some, None}
use Rattle.design_core.specs.declared.tree.DBase.{DBase}
use Rattle.design_core.specs.declared.tree.DBase.TheVariants as base
use Rattle.design_core.specs.declared.tree.DExpr.{DExpr, DExpr-F, fold-DExpr}
use Rattle.design_core.specs.declared.tree.DLeft.{DLeft, roll-DLeft, fold-DLeft}
use Rattle.design_core.specs.declared.tree.DLeft.TheOpen.{DLeft-F, DNode-F, DFunction-F}
use Rattle.design_core.specs.declared.tree.DNode.{DNode, roll-DNode, fold-DNode}
use Rattle.design_core.specs.declared.tree.DStmt.{DStmt, roll-DStmt, fold-DStmt}
use Rattle.design_core.specs.declared.tree.DArm.{DArm, roll-DArm, fold-DArm}
use Rattle.design_core.specs.declared.tree.DFunction.{DFunction, fold-DFunction}
use Rattle.design_core.specs.declared.tree.DMatch.{DMatch, roll-DMatch, fold-DMatch}
use Rattle.design_core.specs.declared.items.Item.{Item}
use Rattle.design_core.specs.declared.items.Item.TheVariants as item
use Rattle.design_core.specs.declared.items.DReset.{DReset}
use Rattle.design_core.specs.Renamed.{moved}

-- the number that a list gives a signal: its entry, or the number itself past the end of the list
abbrev pub number_in : List ℕ → ℕ → ℕ
number_in numbers s = slice_index_or numbers s s

abbrev pub renumbered_base : (ℕ → ℕ) → DBase → DBase
renumbered_base ρ (base.Signal s) = base.Signal (ρ s)
renumbered_base ρ (base.Local k) = base.Local k

-- each type's step: a signal and a left side's base under the new number, and each other layer as it is
abbrev pub left_renumbered : (ℕ → ℕ) → DLeft-F DLeft DNode DStmt DArm DExpr DFunction DMatch → DLeft
left_renumbered ρ (DLeft-F.Whole b n) = roll-DLeft (DLeft-F.Whole (renumbered_base ρ b) n)
left_renumbered ρ (DLeft-F.Part b low n) = roll-DLeft (DLeft-F.Part (renumbered_base ρ b) low n)
left_renumbered ρ (DLeft-F.At b index offset down n) = roll-DLeft (DLeft-F.At (renumbered_base ρ b) index offset down n)
left_renumbered ρ (DLeft-F.«DLeft::Concat» parts) = roll-DLeft (DLeft-F.«DLeft::Concat» parts)

abbrev pub node_renumbered : (ℕ → ℕ) → DNode-F DLeft DNode DStmt DArm DExpr DFunction DMatch → DNode
node_renumbered ρ (DNode-F.Const bits) = roll-DNode (DNode-F.Const bits)
node_renumbered ρ (DNode-F.Signal s) = roll-DNode (DNode-F.Signal (ρ s))
node_renumbered ρ (DNode-F.Local k) = roll-DNode (DNode-F.Local k)
node_renumbered ρ (DNode-F.Select e low) = roll-DNode (DNode-F.Select e low)
node_renumbered ρ (DNode-F.SelectAt e index offset down) = roll-DNode (DNode-F.SelectAt e index offset down)
node_renumbered ρ (DNode-F.Unary op a) = roll-DNode (DNode-F.Unary op a)
node_renumbered ρ (DNode-F.Binary op a b) = roll-DNode (DNode-F.Binary op a b)
node_renumbered ρ (DNode-F.Mux c a b) = roll-DNode (DNode-F.Mux c a b)
node_renumbered ρ (DNode-F.Extend a by_sign) = roll-DNode (DNode-F.Extend a by_sign)
node_renumbered ρ (DNode-F.«DNode::Concat» parts) = roll-DNode (DNode-F.«DNode::Concat» parts)
node_renumbered ρ (DNode-F.Repeat count part) = roll-DNode (DNode-F.Repeat count part)
node_renumbered ρ (DNode-F.Call function arguments) = roll-DNode (DNode-F.Call function arguments)

abbrev pub expr_renumbered : DExpr-F DLeft DNode DStmt DArm DExpr DFunction DMatch → DExpr
expr_renumbered x = record { length = x.length; signed = x.signed; node = x.node }

abbrev pub function_renumbered : DFunction-F DLeft DNode DStmt DArm DExpr DFunction DMatch → DFunction
function_renumbered x = record { length = x.length; signed = x.signed; inputs = x.inputs; locals = x.locals; body = x.body }

-- the folds with these steps
unfoldable pub renumbered_expr : (ℕ → ℕ) → DExpr → DExpr
renumbered_expr ρ = fold-DExpr DLeft DNode DStmt DArm DExpr DFunction DMatch (left_renumbered ρ) (node_renumbered ρ) roll-DStmt roll-DArm expr_renumbered function_renumbered roll-DMatch

unfoldable pub renumbered_node : (ℕ → ℕ) → DNode → DNode
renumbered_node ρ = fold-DNode DLeft DNode DStmt DArm DExpr DFunction DMatch (left_renumbered ρ) (node_renumbered ρ) roll-DStmt roll-DArm expr_renumbered function_renumbered roll-DMatch

unfoldable pub renumbered_left : (ℕ → ℕ) → DLeft → DLeft
renumbered_left ρ = fold-DLeft DLeft DNode DStmt DArm DExpr DFunction DMatch (left_renumbered ρ) (node_renumbered ρ) roll-DStmt roll-DArm expr_renumbered function_renumbered roll-DMatch

unfoldable pub renumbered_stmt : (ℕ → ℕ) → DStmt → DStmt
renumbered_stmt ρ = fold-DStmt DLeft DNode DStmt DArm DExpr DFunction DMatch (left_renumbered ρ) (node_renumbered ρ) roll-DStmt roll-DArm expr_renumbered function_renumbered roll-DMatch

unfoldable pub renumbered_arm : (ℕ → ℕ) → DArm → DArm
renumbered_arm ρ = fold-DArm DLeft DNode DStmt DArm DExpr DFunction DMatch (left_renumbered ρ) (node_renumbered ρ) roll-DStmt roll-DArm expr_renumbered function_renumbered roll-DMatch

unfoldable pub renumbered_function : (ℕ → ℕ) → DFunction → DFunction
renumbered_function ρ = fold-DFunction DLeft DNode DStmt DArm DExpr DFunction DMatch (left_renumbered ρ) (node_renumbered ρ) roll-DStmt roll-DArm expr_renumbered function_renumbered roll-DMatch

unfoldable pub renumbered_match : (ℕ → ℕ) → DMatch → DMatch
renumbered_match ρ = fold-DMatch DLeft DNode DStmt DArm DExpr DFunction DMatch (left_renumbered ρ) (node_renumbered ρ) roll-DStmt roll-DArm expr_renumbered function_renumbered roll-DMatch

-- a reset and an item under other numbers of signals; the weight of an item is kept
abbrev pub reset_again : (ℕ → ℕ) → DReset → DReset
reset_again ρ r = record { bit = moved ρ r.bit; asserted = r.asserted; test = renumbered_expr ρ r.test; branch = renumbered_stmt ρ r.branch }

abbrev pub renumbered_reset : (ℕ → ℕ) → Option DReset → Option DReset
renumbered_reset ρ None = None
renumbered_reset ρ (Some r) = Some (reset_again ρ r)

abbrev pub renumbered_item : (ℕ → ℕ) → Item → Item
renumbered_item ρ (item.Assign scope weight l e) = item.Assign scope weight (renumbered_left ρ l) (renumbered_expr ρ e)
renumbered_item ρ (item.Comb scope weight body) = item.Comb scope weight (renumbered_stmt ρ body)
renumbered_item ρ (item.Clocked scope weight reset body) = item.Clocked scope weight (renumbered_reset ρ reset) (renumbered_stmt ρ body)
