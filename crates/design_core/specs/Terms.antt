-- A design's tree as core terms: each operator as a function on lists of bits, each list as a chain.
use Rattle.std.specs.Prelude.{ℕ, Bool, false, if◌then◌else◌, ◌||◌, ◌==◌, List, [], ◌∷◌, ◌++◌, map, Option, Some, None, ℤ, pos, zero}
use Rattle.bits_core.specs.Places.{is_set, extended, selected}
use Rattle.design_core.specs.declared.tree.DBase.{DBase}
use Rattle.design_core.specs.declared.tree.DBase.TheVariants as base
use Rattle.design_core.specs.declared.tree.DLocal.{DLocal}
use Rattle.design_core.specs.declared.tree.DExpr.{DExpr, DExpr-F, fold-DExpr}
use Rattle.design_core.specs.declared.tree.DLeft.{DLeft, fold-DLeft}
use Rattle.design_core.specs.declared.tree.DLeft.TheOpen.{DLeft-F, DNode-F, DStmt-F, DArm-F, DFunction-F, DMatch-F}
use Rattle.design_core.specs.declared.tree.DNode.{DNode, fold-DNode}
use Rattle.design_core.specs.declared.tree.DStmt.{DStmt, fold-DStmt}
use Rattle.design_core.specs.declared.tree.DArm.{DArm, fold-DArm}
use Rattle.design_core.specs.declared.tree.DFunction.{DFunction, fold-DFunction}
use Rattle.design_core.specs.declared.tree.DMatch.{DMatch, fold-DMatch}
use Rattle.design_core.specs.Core.{Base, signal, local, Term, constant, span, own, app1, app2, app3, call, Args, stop, pass, Left, nowhere, both, slice, slice_at, Stmt, skip, seq, write, choose}
use Rattle.design_core.specs.Operators.{unary_value, binary_value, by_sign, chosen, repeated, lowest, all_match, one_bit}

-- an expression as an operand: its sign, and its term
pub record Operand : Type 0 where
  pub sign : Bool
  pub core : Term

-- n bits from low on; of a whole signal those bits alone are read
abbrev pub select_of : ℤ → ℕ → Term → Term
select_of low n (span s m (pos zero) k) = if k == m then span s m low n else app1 (selected low n) (span s m (pos zero) k)
select_of low n e = app1 (selected low n) e

-- the first part is the highest (5.1.14)
abbrev pub chained : List Term → Term
chained [] = constant []
chained (p ∷ ps) = app2 (λ high low. low ++ high) p (chained ps)

abbrev pub passed : List Term → Args
passed [] = stop
passed (p ∷ ps) = pass p (passed ps)

abbrev pub all_left : List Left → Left
all_left [] = nowhere
all_left (p ∷ ps) = both p (all_left ps)

abbrev pub in_turn : List Stmt → Stmt
in_turn [] = skip
in_turn (p ∷ ps) = seq p (in_turn ps)

abbrev pub free_bits : Option (List Bool) → List Bool
free_bits None = []
free_bits (Some bits) = bits

-- some item of an arm matches the selector
abbrev pub some_match : List (Term → Term) → Term → Term
some_match [] selector = constant (false ∷ [])
some_match (m ∷ ms) selector = app2 (λ a b. one_bit (is_set a || is_set b)) (m selector) (some_match ms selector)

-- the first arm that matches is taken, else what follows (9.5)
abbrev pub arms_in_turn : List (Term → Stmt → Stmt) → Term → Stmt → Stmt
arms_in_turn [] selector rest = rest
arms_in_turn (arm ∷ arms) selector rest = arm selector (arms_in_turn arms selector rest)

abbrev pub or_skip : Option Stmt → Stmt
or_skip None = skip
or_skip (Some s) = s

abbrev pub base_of : DBase → Base
base_of (base.Signal s) = signal s
base_of (base.Local k) = local k

-- the length of what a left side names: a signal's own, and for a local the most that a vector has, since a write past a local's end has no effect
abbrev pub size_of : (ℕ → ℕ) → DBase → ℕ
size_of size (base.Signal s) = size s
size_of size (base.Local k) = 65536

abbrev pub lengths : List DLocal → List ℕ
lengths locals = map (λ (x : DLocal). x.length) locals

-- what each type is read as: a node waits for its length and sign, an arm for its selector and what follows, a function for its arguments, an item of a case for its selector
abbrev pub left_step : (ℕ → ℕ) → DLeft-F Left (ℕ → Bool → Term) Stmt (Term → Stmt → Stmt) Operand (Args → Term) (Term → Term) → Left
left_step size (DLeft-F.Whole b n) = slice (base_of b) n (pos 0) n
left_step size (DLeft-F.Part b low n) = slice (base_of b) (size_of size b) low n
left_step size (DLeft-F.At b index offset down n) = slice_at (base_of b) (size_of size b) (lowest offset down index.sign) index.core n
left_step size (DLeft-F.«DLeft::Concat» parts) = all_left parts

abbrev pub node_step : DNode-F Left (ℕ → Bool → Term) Stmt (Term → Stmt → Stmt) Operand (Args → Term) (Term → Term) → ℕ → Bool → Term
node_step (DNode-F.Const bits) n sign = constant bits
node_step (DNode-F.Signal s) n sign = span s n (pos 0) n
node_step (DNode-F.Local k) n sign = own k
node_step (DNode-F.Select e low) n sign = select_of low n e.core
node_step (DNode-F.SelectAt e index offset down) n sign = app2 (λ v i. selected (lowest offset down index.sign i) n v) e.core index.core
node_step (DNode-F.Unary op a) n sign = app1 (unary_value op) a.core
node_step (DNode-F.Binary op a b) n sign = app2 (binary_value op (by_sign op sign a.sign b.sign)) a.core b.core
node_step (DNode-F.Mux c a b) n sign = app3 chosen c.core a.core b.core
node_step (DNode-F.Extend a keeps) n sign = app1 (extended keeps n) a.core
node_step (DNode-F.«DNode::Concat» parts) n sign = chained (map (λ (x : Operand). x.core) parts)
node_step (DNode-F.Repeat count part) n sign = app1 (repeated count) part.core
node_step (DNode-F.Call function arguments) n sign = function (passed (map (λ (x : Operand). x.core) arguments))

abbrev pub stmt_step : DStmt-F Left (ℕ → Bool → Term) Stmt (Term → Stmt → Stmt) Operand (Args → Term) (Term → Term) → Stmt
stmt_step (DStmt-F.Block parts) = in_turn parts
stmt_step (DStmt-F.Write left right blocking) = write left right.core blocking
stmt_step (DStmt-F.If test a b) = choose test.core a b
stmt_step (DStmt-F.Case selector arms rest) = arms_in_turn arms selector.core (or_skip rest)
stmt_step (DStmt-F.Turns parts) = in_turn parts

abbrev pub arm_step : DArm-F Left (ℕ → Bool → Term) Stmt (Term → Stmt → Stmt) Operand (Args → Term) (Term → Term) → Term → Stmt → Stmt
arm_step x selector rest = choose (some_match x.matches selector) x.body rest

abbrev pub expr_step : DExpr-F Left (ℕ → Bool → Term) Stmt (Term → Stmt → Stmt) Operand (Args → Term) (Term → Term) → Operand
expr_step x = record { sign = x.signed; core = x.node x.length x.signed }

abbrev pub function_step : DFunction-F Left (ℕ → Bool → Term) Stmt (Term → Stmt → Stmt) Operand (Args → Term) (Term → Term) → Args → Term
function_step x arguments = call arguments x.body x.length (lengths x.inputs) (lengths x.locals)

abbrev pub match_step : DMatch-F Left (ℕ → Bool → Term) Stmt (Term → Stmt → Stmt) Operand (Args → Term) (Term → Term) → Term → Term
match_step x selector = app2 (λ a b. one_bit (all_match a b (free_bits x.free))) selector x.value.core

-- the folds with these steps, where `size` gives the length of each signal
abbrev pub folded_expr : (ℕ → ℕ) → DExpr → Operand
folded_expr size = fold-DExpr Left (ℕ → Bool → Term) Stmt (Term → Stmt → Stmt) Operand (Args → Term) (Term → Term) (left_step size) node_step stmt_step arm_step expr_step function_step match_step

abbrev pub folded_node : (ℕ → ℕ) → DNode → ℕ → Bool → Term
folded_node size = fold-DNode Left (ℕ → Bool → Term) Stmt (Term → Stmt → Stmt) Operand (Args → Term) (Term → Term) (left_step size) node_step stmt_step arm_step expr_step function_step match_step

abbrev pub folded_left : (ℕ → ℕ) → DLeft → Left
folded_left size = fold-DLeft Left (ℕ → Bool → Term) Stmt (Term → Stmt → Stmt) Operand (Args → Term) (Term → Term) (left_step size) node_step stmt_step arm_step expr_step function_step match_step

abbrev pub folded_stmt : (ℕ → ℕ) → DStmt → Stmt
folded_stmt size = fold-DStmt Left (ℕ → Bool → Term) Stmt (Term → Stmt → Stmt) Operand (Args → Term) (Term → Term) (left_step size) node_step stmt_step arm_step expr_step function_step match_step

abbrev pub folded_arm : (ℕ → ℕ) → DArm → Term → Stmt → Stmt
folded_arm size = fold-DArm Left (ℕ → Bool → Term) Stmt (Term → Stmt → Stmt) Operand (Args → Term) (Term → Term) (left_step size) node_step stmt_step arm_step expr_step function_step match_step

abbrev pub folded_function : (ℕ → ℕ) → DFunction → Args → Term
folded_function size = fold-DFunction Left (ℕ → Bool → Term) Stmt (Term → Stmt → Stmt) Operand (Args → Term) (Term → Term) (left_step size) node_step stmt_step arm_step expr_step function_step match_step

abbrev pub folded_match : (ℕ → ℕ) → DMatch → Term → Term
folded_match size = fold-DMatch Left (ℕ → Bool → Term) Stmt (Term → Stmt → Stmt) Operand (Args → Term) (Term → Term) (left_step size) node_step stmt_step arm_step expr_step function_step match_step

-- the term of an expression
unfoldable pub term : (ℕ → ℕ) → DExpr → Term
term size e = (folded_expr size e).core

-- the core of a left side
unfoldable pub left : (ℕ → ℕ) → DLeft → Left
left size = folded_left size

-- the core of a statement
unfoldable pub stmt : (ℕ → ℕ) → DStmt → Stmt
stmt size = folded_stmt size

-- the test of an item of a case, for a selector
unfoldable pub matching : (ℕ → ℕ) → DMatch → Term → Term
matching size = folded_match size
