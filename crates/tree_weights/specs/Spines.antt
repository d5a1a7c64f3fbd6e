-- A weight in two parts: that of one operand or branch, along which a chain goes on, and what is weighed beside it.
use Rattle.std.specs.Prelude.{ℕ, ◌+◌, ◌*◌, List, [], ◌∷◌, length, Option, Some, None}
use Rattle.design_core.specs.declared.tree.DExpr.{DExpr}
use Rattle.design_core.specs.declared.tree.DNode.{DNode, out-DNode}
use Rattle.design_core.specs.declared.tree.DLeft.{DLeft}
use Rattle.design_core.specs.declared.tree.DLeft.TheOpen.{DNode-F, DStmt-F}
use Rattle.design_core.specs.declared.tree.DStmt.{DStmt, out-DStmt}
use Rattle.design_core.specs.declared.tree.DArm.{DArm, out-DArm}
use Rattle.design_core.specs.declared.tree.DFunction.{DFunction}
use Rattle.design_core.specs.declared.tree.DMatch.{DMatch, out-DMatch}
use Rattle.design_core.specs.Formed.{unary_weight, binary_weight, variable_weight, expr_weight, stmt_weight, left_length, sized_left, sized_function}

-- one layer of an expression or of a statement
abbrev pub NodeLayer : Type 0
NodeLayer = DNode-F DLeft DNode DStmt DArm DExpr DFunction DMatch

abbrev pub StmtLayer : Type 0
StmtLayer = DStmt-F DLeft DNode DStmt DArm DExpr DFunction DMatch

-- what a left side and a function weigh
unfoldable pub left_weight : List ℕ → List ℕ → DLeft → ℕ
left_weight vs ls l = (sized_left vs l).weight ls

unfoldable pub function_weight : List ℕ → DFunction → ℕ
function_weight vs f = (sized_function vs f).weight

-- the bits of some left sides
abbrev pub lengths_sum : List ℕ → List DLeft → ℕ
lengths_sum vs [] = 0
lengths_sum vs (l ∷ ls) = left_length vs l + lengths_sum vs ls

-- what lists of trees weigh
abbrev pub exprs_weight : List ℕ → List ℕ → List DExpr → ℕ
exprs_weight vs ls [] = 0
exprs_weight vs ls (e ∷ es) = expr_weight vs ls e + exprs_weight vs ls es

abbrev pub lefts_weight : List ℕ → List ℕ → List DLeft → ℕ
lefts_weight vs ls [] = 0
lefts_weight vs ls (e ∷ es) = left_weight vs ls e + lefts_weight vs ls es

abbrev pub stmts_weight : List ℕ → List ℕ → List DStmt → ℕ
stmts_weight vs ls [] = 0
stmts_weight vs ls (e ∷ es) = stmt_weight vs ls e + stmts_weight vs ls es

abbrev pub matches_weight : List ℕ → List ℕ → List DMatch → ℕ
matches_weight vs ls [] = 0
matches_weight vs ls (m ∷ ms) = expr_weight vs ls (out-DMatch m).value + matches_weight vs ls ms

-- an arm of a `case`: the selector's length for each of its items, its items and its body
abbrev pub arm_weight : List ℕ → List ℕ → ℕ → DArm → ℕ
arm_weight vs ls n a = n * length (out-DArm a).matches + matches_weight vs ls (out-DArm a).matches + stmt_weight vs ls (out-DArm a).body

abbrev pub arms_weight : List ℕ → List ℕ → ℕ → List DArm → ℕ
arms_weight vs ls n [] = 0
arms_weight vs ls n (a ∷ arms) = arm_weight vs ls n a + arms_weight vs ls n arms

-- the operand along which a chain of expressions goes on: the first, of a choice the last
abbrev pub spine_in : NodeLayer → Option DExpr
spine_in (DNode-F.Const bits) = None
spine_in (DNode-F.Signal s) = None
spine_in (DNode-F.Local k) = None
spine_in (DNode-F.Select e low) = Some e
spine_in (DNode-F.SelectAt e index offset down) = Some e
spine_in (DNode-F.Unary op a) = Some a
spine_in (DNode-F.Binary op a b) = Some a
spine_in (DNode-F.Mux c a b) = Some b
spine_in (DNode-F.Extend a keeps) = Some a
spine_in (DNode-F.«DNode::Concat» parts) = None
spine_in (DNode-F.Repeat count part) = Some part
spine_in (DNode-F.Call function arguments) = None

unfoldable pub spine : DNode → Option DExpr
spine d = spine_in (out-DNode d)

-- what an expression of n bits weighs beside that operand
abbrev pub beside_in : List ℕ → List ℕ → NodeLayer → ℕ → ℕ
beside_in vs ls (DNode-F.Const bits) n = 0
beside_in vs ls (DNode-F.Signal s) n = 0
beside_in vs ls (DNode-F.Local k) n = 0
beside_in vs ls (DNode-F.Select e low) n = 0
beside_in vs ls (DNode-F.SelectAt e index offset down) n = variable_weight e.length index.length + expr_weight vs ls index
beside_in vs ls (DNode-F.Unary op a) n = unary_weight op a.length
beside_in vs ls (DNode-F.Binary op a b) n = binary_weight op a.length b.length + expr_weight vs ls b
beside_in vs ls (DNode-F.Mux c a b) n = n + expr_weight vs ls c + expr_weight vs ls a
beside_in vs ls (DNode-F.Extend a keeps) n = 0
beside_in vs ls (DNode-F.«DNode::Concat» parts) n = exprs_weight vs ls parts
beside_in vs ls (DNode-F.Repeat count part) n = 0
beside_in vs ls (DNode-F.Call function arguments) n = function_weight vs function + exprs_weight vs ls arguments

unfoldable pub beside : List ℕ → List ℕ → DNode → ℕ → ℕ
beside vs ls d n = beside_in vs ls (out-DNode d) n

-- what the operand of a chain weighs, if there is one
abbrev pub spine_weight : List ℕ → List ℕ → Option DExpr → ℕ
spine_weight vs ls None = 0
spine_weight vs ls (Some e) = expr_weight vs ls e

-- the branch along which a chain of statements goes on: the last of an `if`, what follows the arms of a `case`
abbrev pub last_in : StmtLayer → Option DStmt
last_in (DStmt-F.Block parts) = None
last_in (DStmt-F.Write left right blocking) = None
last_in (DStmt-F.If test a b) = Some b
last_in (DStmt-F.Case selector arms rest) = rest
last_in (DStmt-F.Turns parts) = None

unfoldable pub last : DStmt → Option DStmt
last s = last_in (out-DStmt s)

-- what a statement weighs beside that branch
abbrev pub before_last_in : List ℕ → List ℕ → StmtLayer → ℕ
before_last_in vs ls (DStmt-F.Block parts) = stmts_weight vs ls parts
before_last_in vs ls (DStmt-F.Write left right blocking) = left_length vs left + left_weight vs ls left + expr_weight vs ls right
before_last_in vs ls (DStmt-F.If test a b) = expr_weight vs ls test + 1 + stmt_weight vs ls a
before_last_in vs ls (DStmt-F.Case selector arms rest) = expr_weight vs ls selector + arms_weight vs ls selector.length arms
before_last_in vs ls (DStmt-F.Turns parts) = length parts + stmts_weight vs ls parts

unfoldable pub before_last : List ℕ → List ℕ → DStmt → ℕ
before_last vs ls s = before_last_in vs ls (out-DStmt s)

abbrev pub last_weight : List ℕ → List ℕ → Option DStmt → ℕ
last_weight vs ls None = 0
last_weight vs ls (Some s) = stmt_weight vs ls s
