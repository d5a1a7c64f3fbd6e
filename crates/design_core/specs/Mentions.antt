-- The signals that a tree names: in its expressions, on its left sides, and in the functions that it calls.
use Rattle.std.specs.Prelude.{ℕ, Bool, false, ◌||◌, ◌==◌, List, [], ◌∷◌, Option, Some, None}
use Rattle.design_core.specs.declared.tree.DBase.{DBase}
use Rattle.design_core.specs.declared.tree.DBase.TheVariants as base
use Rattle.design_core.specs.declared.tree.DExpr.{DExpr, DExpr-F, fold-DExpr}
use Rattle.design_core.specs.declared.tree.DLeft.{DLeft, fold-DLeft}
use Rattle.design_core.specs.declared.tree.DLeft.TheOpen.{DLeft-F, DNode-F, DStmt-F, DArm-F, DFunction-F, DMatch-F}
use Rattle.design_core.specs.declared.tree.DNode.{DNode, fold-DNode}
use Rattle.design_core.specs.declared.tree.DStmt.{DStmt, fold-DStmt}
use Rattle.design_core.specs.declared.tree.DArm.{DArm, fold-DArm}
use Rattle.design_core.specs.declared.tree.DFunction.{DFunction, fold-DFunction}
use Rattle.design_core.specs.declared.tree.DMatch.{DMatch, fold-DMatch}
use Rattle.design_core.specs.declared.items.Item.{Item}
use Rattle.design_core.specs.declared.items.Item.TheVariants as item
use Rattle.design_core.specs.declared.items.DReset.{DReset}

-- a set of signals
abbrev pub Signals : Type 0
Signals = ℕ → Bool

abbrev pub no_signals : Signals
no_signals s = false

abbrev pub and_also : Signals → Signals → Signals
and_also f g s = f s || g s

abbrev pub of_all : List Signals → Signals
of_all [] = no_signals
of_all (f ∷ fs) = and_also f (of_all fs)

abbrev pub of_rest : Option Signals → Signals
of_rest None = no_signals
of_rest (Some f) = f

abbrev pub base_mentions : DBase → Signals
base_mentions (base.Signal k) s = s == k
base_mentions (base.Local k) s = false

-- each type's step: the signals of its parts, and its own
abbrev pub left_mentions : DLeft-F Signals Signals Signals Signals Signals Signals Signals → Signals
left_mentions (DLeft-F.Whole b n) = base_mentions b
left_mentions (DLeft-F.Part b low n) = base_mentions b
left_mentions (DLeft-F.At b index offset down n) = and_also (base_mentions b) index
left_mentions (DLeft-F.«DLeft::Concat» parts) = of_all parts

abbrev pub node_mentions : DNode-F Signals Signals Signals Signals Signals Signals Signals → Signals
node_mentions (DNode-F.Const bits) = no_signals
node_mentions (DNode-F.Signal k) = λ s. s == k
node_mentions (DNode-F.Local k) = no_signals
node_mentions (DNode-F.Select e low) = e
node_mentions (DNode-F.SelectAt e index offset down) = and_also e index
node_mentions (DNode-F.Unary op a) = a
node_mentions (DNode-F.Binary op a b) = and_also a b
node_mentions (DNode-F.Mux c a b) = and_also c (and_also a b)
node_mentions (DNode-F.Extend a by_sign) = a
node_mentions (DNode-F.«DNode::Concat» parts) = of_all parts
node_mentions (DNode-F.Repeat count part) = part
node_mentions (DNode-F.Call function arguments) = and_also function (of_all arguments)

abbrev pub stmt_mentions : DStmt-F Signals Signals Signals Signals Signals Signals Signals → Signals
stmt_mentions (DStmt-F.Block parts) = of_all parts
stmt_mentions (DStmt-F.Write left right blocking) = and_also left right
stmt_mentions (DStmt-F.If test a b) = and_also test (and_also a b)
stmt_mentions (DStmt-F.Case selector arms rest) = and_also selector (and_also (of_all arms) (of_rest rest))
stmt_mentions (DStmt-F.Turns parts) = of_all parts

abbrev pub arm_mentions : DArm-F Signals Signals Signals Signals Signals Signals Signals → Signals
arm_mentions x = and_also (of_all x.matches) x.body

abbrev pub expr_mentions : DExpr-F Signals Signals Signals Signals Signals Signals Signals → Signals
expr_mentions x = x.node

abbrev pub function_mentions : DFunction-F Signals Signals Signals Signals Signals Signals Signals → Signals
function_mentions x = x.body

abbrev pub match_mentions : DMatch-F Signals Signals Signals Signals Signals Signals Signals → Signals
match_mentions x = x.value

-- the folds with these steps
abbrev pub mentions_expr : DExpr → Signals
mentions_expr = fold-DExpr Signals Signals Signals Signals Signals Signals Signals left_mentions node_mentions stmt_mentions arm_mentions expr_mentions function_mentions match_mentions

abbrev pub mentions_node : DNode → Signals
mentions_node = fold-DNode Signals Signals Signals Signals Signals Signals Signals left_mentions node_mentions stmt_mentions arm_mentions expr_mentions function_mentions match_mentions

abbrev pub mentions_left : DLeft → Signals
mentions_left = fold-DLeft Signals Signals Signals Signals Signals Signals Signals left_mentions node_mentions stmt_mentions arm_mentions expr_mentions function_mentions match_mentions

abbrev pub mentions_stmt : DStmt → Signals
mentions_stmt = fold-DStmt Signals Signals Signals Signals Signals Signals Signals left_mentions node_mentions stmt_mentions arm_mentions expr_mentions function_mentions match_mentions

abbrev pub mentions_arm : DArm → Signals
mentions_arm = fold-DArm Signals Signals Signals Signals Signals Signals Signals left_mentions node_mentions stmt_mentions arm_mentions expr_mentions function_mentions match_mentions

abbrev pub mentions_function : DFunction → Signals
mentions_function = fold-DFunction Signals Signals Signals Signals Signals Signals Signals left_mentions node_mentions stmt_mentions arm_mentions expr_mentions function_mentions match_mentions

abbrev pub mentions_match : DMatch → Signals
mentions_match = fold-DMatch Signals Signals Signals Signals Signals Signals Signals left_mentions node_mentions stmt_mentions arm_mentions expr_mentions function_mentions match_mentions

-- the signals that an expression, a left side, a statement names
unfoldable pub names_of : DExpr → Signals
names_of e = mentions_expr e

unfoldable pub names_of_left : DLeft → Signals
names_of_left l = mentions_left l

unfoldable pub names_of_stmt : DStmt → Signals
names_of_stmt b = mentions_stmt b

-- the signals of a reset: that of its bit, and those of its test and its branch
abbrev pub names_of_reset : Option DReset → Signals
names_of_reset None = no_signals
names_of_reset (Some r) = and_also (λ s. s == (r.bit).signal) (and_also (names_of r.test) (names_of_stmt r.branch))

-- the signals that an item names
abbrev pub names_of_item : Item → Signals
names_of_item (item.Assign scope weight l e) = and_also (names_of_left l) (names_of e)
names_of_item (item.Comb scope weight body) = names_of_stmt body
names_of_item (item.Clocked scope weight reset body) = and_also (names_of_reset reset) (names_of_stmt body)
