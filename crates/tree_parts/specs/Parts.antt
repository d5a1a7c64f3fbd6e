-- The parts of expressions and statements, in order.
use Rattle.std.specs.Prelude.{◌≡◌, ℕ, true, List, [], ◌∷◌, ◌++◌, map, Option, Some, None}
use Rattle.std.specs.Borrow.{Bor}
use Rattle.design_core.specs.declared.tree.DExpr.{DExpr}
use Rattle.design_core.specs.declared.tree.DNode.{DNode, out-DNode}
use Rattle.design_core.specs.declared.tree.DLeft.{DLeft}
use Rattle.design_core.specs.declared.tree.DLeft.TheOpen.{DNode-F, DStmt-F}
use Rattle.design_core.specs.declared.tree.DStmt.{DStmt, out-DStmt}
use Rattle.design_core.specs.declared.tree.DArm.{DArm, out-DArm}
use Rattle.design_core.specs.declared.tree.DFunction.{DFunction}
use Rattle.design_core.specs.declared.tree.DMatch.{DMatch, out-DMatch}
use Rattle.design_core.specs.Formed.{sized_function}

-- what some references refer to
abbrev pub seen : {X : Type 0} → List (Bor X) → List X
seen {X} all = map (λ (x : Bor X). x.now) all

-- one layer of an expression or of a statement
abbrev pub NodeLayer : Type 0
NodeLayer = DNode-F DLeft DNode DStmt DArm DExpr DFunction DMatch

abbrev pub StmtLayer : Type 0
StmtLayer = DStmt-F DLeft DNode DStmt DArm DExpr DFunction DMatch

-- the operand of a select; a signal is none, since its bits are taken where they are
abbrev pub base_operands : NodeLayer → DExpr → List DExpr
base_operands (DNode-F.Signal s) base = []
base_operands (DNode-F.Const bits) base = base ∷ []
base_operands (DNode-F.Local k) base = base ∷ []
base_operands (DNode-F.Select a low) base = base ∷ []
base_operands (DNode-F.SelectAt a index offset down) base = base ∷ []
base_operands (DNode-F.Unary op a) base = base ∷ []
base_operands (DNode-F.Binary op a b) base = base ∷ []
base_operands (DNode-F.Mux c a b) base = base ∷ []
base_operands (DNode-F.Extend a by_sign) base = base ∷ []
base_operands (DNode-F.«DNode::Concat» parts) base = base ∷ []
base_operands (DNode-F.Repeat count part) base = base ∷ []
base_operands (DNode-F.Call function arguments) base = base ∷ []

abbrev pub operands_in : NodeLayer → List DExpr
operands_in (DNode-F.Const bits) = []
operands_in (DNode-F.Signal s) = []
operands_in (DNode-F.Local k) = []
operands_in (DNode-F.Select base low) = base_operands (out-DNode base.node) base
operands_in (DNode-F.SelectAt base index offset down) = base ∷ index ∷ []
operands_in (DNode-F.Unary op a) = a ∷ []
operands_in (DNode-F.Binary op a b) = a ∷ b ∷ []
operands_in (DNode-F.Mux c a b) = c ∷ a ∷ b ∷ []
operands_in (DNode-F.Extend a by_sign) = a ∷ []
operands_in (DNode-F.«DNode::Concat» parts) = parts
operands_in (DNode-F.Repeat count part) = part ∷ []
operands_in (DNode-F.Call function arguments) = arguments

-- the operands of an expression, from the left
unfoldable pub operands_of : DExpr → List DExpr
operands_of e = operands_in (out-DNode e.node)

-- an expression that is no whole signal
unfoldable pub IsNoSignal : DExpr → Type 0
IsNoSignal e = base_operands (out-DNode e.node) e ≡ e ∷ []

-- the values of all items of some arms
abbrev pub items_of : List DArm → List DExpr
items_of [] = []
items_of (a ∷ as') = map (λ (x : DMatch). (out-DMatch x).value) (out-DArm a).matches ++ items_of as'

abbrev pub heads_in : StmtLayer → List DExpr
heads_in (DStmt-F.Block parts) = []
heads_in (DStmt-F.Write left right blocking) = []
heads_in (DStmt-F.If test a b) = test ∷ []
heads_in (DStmt-F.Case selector arms rest) = selector ∷ items_of arms
heads_in (DStmt-F.Turns parts) = []

-- what a statement asks for before it runs a part of it
unfoldable pub heads_of : DStmt → List DExpr
heads_of s = heads_in (out-DStmt s)

-- a selector with the items that it is compared with; alone it is compared with nothing
abbrev pub compared_in : List DExpr → List DExpr
compared_in [] = []
compared_in (selector ∷ []) = []
compared_in (selector ∷ e ∷ es) = selector ∷ e ∷ es

abbrev pub asked_in : StmtLayer → List DExpr
asked_in (DStmt-F.Block parts) = []
asked_in (DStmt-F.Write left right blocking) = []
asked_in (DStmt-F.If test a b) = test ∷ []
asked_in (DStmt-F.Case selector arms rest) = compared_in (selector ∷ items_of arms)
asked_in (DStmt-F.Turns parts) = []

-- what a statement reads before it runs a part of it
unfoldable pub asked_of : DStmt → List DExpr
asked_of s = asked_in (out-DStmt s)

abbrev pub rest_of : Option DStmt → List DStmt
rest_of None = []
rest_of (Some s) = s ∷ []

abbrev pub children_in : StmtLayer → List DStmt
children_in (DStmt-F.Block parts) = parts
children_in (DStmt-F.Write left right blocking) = []
children_in (DStmt-F.If test a b) = a ∷ b ∷ []
children_in (DStmt-F.Case selector arms rest) = map (λ (a : DArm). (out-DArm a).body) arms ++ rest_of rest
children_in (DStmt-F.Turns parts) = parts

-- the statements that a statement runs, in order
unfoldable pub children_of : DStmt → List DStmt
children_of s = children_in (out-DStmt s)

-- a function is formed, where the list has the lengths of the signals
abbrev pub IsFormedFunction : List ℕ → DFunction → Type 0
IsFormedFunction vs f = (sized_function vs f).formed ≡ true
