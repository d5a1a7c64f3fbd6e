-- The core of each node, left side and statement: one equation for each constructor.
use Rattle.std.proofs.Common.{◌≡◌, ℕ, Bool, List, [], ◌∷◌, map, refl, ◌∙◌, ap, ap₂, Some, None, ℤ, pos}
use Rattle.bits_core.specs.Places.{extended, selected}
use Rattle.design_core.specs.declared.operators.Unary.{Unary}
use Rattle.design_core.specs.declared.operators.Binary.{Binary}
use Rattle.design_core.specs.declared.tree.DBase.{DBase}
use Rattle.design_core.specs.declared.tree.DExpr.{DExpr, fold_out-DExpr}
use Rattle.design_core.specs.declared.tree.DNode.{DNode, out-DNode, fold_out-DNode, map-DNode}
use Rattle.design_core.specs.declared.tree.DNode.TheVariants as node
use Rattle.design_core.specs.declared.tree.DLeft.{DLeft, out-DLeft, map-DLeft, fold_out-DLeft}
use Rattle.design_core.specs.declared.tree.DLeft.TheVariants as lefts
use Rattle.design_core.specs.declared.tree.DLeft.TheOpen.{DLeft-F, DNode-F, DStmt-F}
use Rattle.design_core.specs.declared.tree.DStmt.{DStmt, out-DStmt, fold_out-DStmt, map-DStmt}
use Rattle.design_core.specs.declared.tree.DStmt.TheVariants as stmts
use Rattle.design_core.specs.declared.tree.DArm.{DArm, out-DArm, fold_out-DArm}
use Rattle.design_core.specs.declared.tree.DFunction.{DFunction, fold_out-DFunction}
use Rattle.design_core.specs.declared.tree.DMatch.{DMatch, out-DMatch, fold_out-DMatch}
use Rattle.design_core.specs.Core.{Term, Args, Left, Stmt, constant, span, own, app1, app2, app3, call, slice, slice_at, skip, write, choose}
use Rattle.design_core.specs.Operators.{unary_value, binary_value, by_sign, chosen, repeated, lowest, all_match, one_bit}
use Rattle.design_core.specs.Covers.{Arm, first_arm}
use Rattle.design_core.specs.Terms.{Operand, term, left, stmt, matching, left_step, node_step, stmt_step, arm_step, expr_step, function_step, match_step, folded_expr, folded_node, folded_left, folded_stmt, folded_arm, folded_function, folded_match, select_of, chained, passed, all_left, in_turn, arms_in_turn, some_match, base_of, size_of, lengths, free_bits}

-- a layer of a node, of a left side, of a statement, with its parts read as core terms
abbrev pub node_parts : (ℕ → ℕ) → DNode-F DLeft DNode DStmt DArm DExpr DFunction DMatch → DNode-F Left (ℕ → Bool → Term) Stmt (Term → Stmt → Stmt) Operand (Args → Term) (Term → Term)
node_parts size = map-DNode DLeft DNode DStmt DArm DExpr DFunction DMatch Left (ℕ → Bool → Term) Stmt (Term → Stmt → Stmt) Operand (Args → Term) (Term → Term)
    (folded_left size) (folded_node size) (folded_stmt size) (folded_arm size) (folded_expr size) (folded_function size) (folded_match size)

abbrev pub left_parts : (ℕ → ℕ) → DLeft-F DLeft DNode DStmt DArm DExpr DFunction DMatch → DLeft-F Left (ℕ → Bool → Term) Stmt (Term → Stmt → Stmt) Operand (Args → Term) (Term → Term)
left_parts size = map-DLeft DLeft DNode DStmt DArm DExpr DFunction DMatch Left (ℕ → Bool → Term) Stmt (Term → Stmt → Stmt) Operand (Args → Term) (Term → Term)
    (folded_left size) (folded_node size) (folded_stmt size) (folded_arm size) (folded_expr size) (folded_function size) (folded_match size)

abbrev pub stmt_parts : (ℕ → ℕ) → DStmt-F DLeft DNode DStmt DArm DExpr DFunction DMatch → DStmt-F Left (ℕ → Bool → Term) Stmt (Term → Stmt → Stmt) Operand (Args → Term) (Term → Term)
stmt_parts size = map-DStmt DLeft DNode DStmt DArm DExpr DFunction DMatch Left (ℕ → Bool → Term) Stmt (Term → Stmt → Stmt) Operand (Args → Term) (Term → Term)
    (folded_left size) (folded_node size) (folded_stmt size) (folded_arm size) (folded_expr size) (folded_function size) (folded_match size)

-- an operand is its expression's sign and term
pub operand_out : (size : ℕ → ℕ) (e : DExpr) → folded_expr size e ≡ (record { sign = e.signed; core = folded_node size e.node e.length e.signed })
operand_out size e = fold_out-DExpr Left (ℕ → Bool → Term) Stmt (Term → Stmt → Stmt) Operand (Args → Term) (Term → Term) (left_step size) node_step stmt_step arm_step expr_step function_step match_step e

pub operand_sign : (size : ℕ → ℕ) (e : DExpr) → (folded_expr size e).sign ≡ e.signed
operand_sign size e = ap (λ (x : Operand). x.sign) (operand_out size e)

pub term_out : (size : ℕ → ℕ) (e : DExpr) → term size e ≡ node_step (node_parts size (out-DNode e.node)) e.length e.signed
unfolding term
term_out size e = ap (λ (x : Operand). x.core) (operand_out size e)
    ∙ ap (λ (f : ℕ → Bool → Term). f e.length e.signed) (fold_out-DNode Left (ℕ → Bool → Term) Stmt (Term → Stmt → Stmt) Operand (Args → Term) (Term → Term) (left_step size) node_step stmt_step arm_step expr_step function_step match_step e.node)

pub left_out : (size : ℕ → ℕ) (l : DLeft) → left size l ≡ left_step size (left_parts size (out-DLeft l))
unfolding left
left_out size l = fold_out-DLeft Left (ℕ → Bool → Term) Stmt (Term → Stmt → Stmt) Operand (Args → Term) (Term → Term) (left_step size) node_step stmt_step arm_step expr_step function_step match_step l

pub stmt_out : (size : ℕ → ℕ) (s : DStmt) → stmt size s ≡ stmt_step (stmt_parts size (out-DStmt s))
unfolding stmt
stmt_out size s = fold_out-DStmt Left (ℕ → Bool → Term) Stmt (Term → Stmt → Stmt) Operand (Args → Term) (Term → Term) (left_step size) node_step stmt_step arm_step expr_step function_step match_step s

cores : (size : ℕ → ℕ) (parts : List DExpr) → map (λ (x : Operand). x.core) (map (folded_expr size) parts) ≡ map (term size) parts
unfolding term
cores size [] = refl
cores size (p ∷ ps) = ap (λ xs. (folded_expr size p).core ∷ xs) (cores size ps)

module _ (size : ℕ → ℕ) (e : DExpr) where
  term_node : (x : DNode-F DLeft DNode DStmt DArm DExpr DFunction DMatch) → out-DNode e.node ≡ x → term size e ≡ node_step (node_parts size x) e.length e.signed
  term_node x is = term_out size e ∙ ap (λ y. node_step (node_parts size y) e.length e.signed) is

  pub term_constant : (bits : List Bool) → e.node ≡ node.Const bits → term size e ≡ constant bits
  term_constant bits is = term_node (DNode-F.Const bits) (ap out-DNode is ∙ node.outs-Const bits)

  pub term_signal : (s : ℕ) → e.node ≡ node.Signal s → term size e ≡ span s e.length (pos 0) e.length
  term_signal s is = term_node (DNode-F.Signal s) (ap out-DNode is ∙ node.outs-Signal s)

  pub term_local : (k : ℕ) → e.node ≡ node.Local k → term size e ≡ own k
  term_local k is = term_node (DNode-F.Local k) (ap out-DNode is ∙ node.outs-Local k)

  pub term_select : (a : DExpr) (low : ℤ) → e.node ≡ node.Select a low → term size e ≡ select_of low e.length (term size a)
  unfolding term
  term_select a low is = term_node (DNode-F.Select a low) (ap out-DNode is ∙ node.outs-Select a low)

  pub term_select_at : (a : DExpr) (index : DExpr) (offset : ℤ) (down : Bool) → e.node ≡ node.SelectAt a index offset down
      → term size e ≡ app2 (λ v i. selected (lowest offset down index.signed i) e.length v) (term size a) (term size index)
  unfolding term
  term_select_at a index offset down is = term_node (DNode-F.SelectAt a index offset down) (ap out-DNode is ∙ node.outs-SelectAt a index offset down)
      ∙ ap (λ k. app2 (λ v i. selected (lowest offset down k i) e.length v) (term size a) (term size index)) (operand_sign size index)

  pub term_unary : (op : Unary) (a : DExpr) → e.node ≡ node.Unary op a → term size e ≡ app1 (unary_value op) (term size a)
  unfolding term
  term_unary op a is = term_node (DNode-F.Unary op a) (ap out-DNode is ∙ node.outs-Unary op a)

  pub term_binary : (op : Binary) (a : DExpr) (b : DExpr) → e.node ≡ node.Binary op a b
      → term size e ≡ app2 (binary_value op (by_sign op e.signed a.signed b.signed)) (term size a) (term size b)
  unfolding term
  term_binary op a b is = term_node (DNode-F.Binary op a b) (ap out-DNode is ∙ node.outs-Binary op a b)
      ∙ ap₂ (λ p q. app2 (binary_value op (by_sign op e.signed p q)) (term size a) (term size b)) (operand_sign size a) (operand_sign size b)

  pub term_mux : (k : DExpr) (a : DExpr) (b : DExpr) → e.node ≡ node.Mux k a b → term size e ≡ app3 chosen (term size k) (term size a) (term size b)
  unfolding term
  term_mux k a b is = term_node (DNode-F.Mux k a b) (ap out-DNode is ∙ node.outs-Mux k a b)

  pub term_extend : (a : DExpr) (keeps : Bool) → e.node ≡ node.Extend a keeps → term size e ≡ app1 (extended keeps e.length) (term size a)
  unfolding term
  term_extend a keeps is = term_node (DNode-F.Extend a keeps) (ap out-DNode is ∙ node.outs-Extend a keeps)

  pub term_concat : (parts : List DExpr) → e.node ≡ node.Concat parts → term size e ≡ chained (map (term size) parts)
  term_concat parts is = term_node (DNode-F.«DNode::Concat» parts) (ap out-DNode is ∙ node.outs-Concat parts) ∙ ap chained (cores size parts)

  pub term_repeat : (count : ℕ) (a : DExpr) → e.node ≡ node.Repeat count a → term size e ≡ app1 (repeated count) (term size a)
  unfolding term
  term_repeat count a is = term_node (DNode-F.Repeat count a) (ap out-DNode is ∙ node.outs-Repeat count a)

  pub term_call : (f : DFunction) (arguments : List DExpr) → e.node ≡ node.Call f arguments
      → term size e ≡ call (passed (map (term size) arguments)) (stmt size f.body) f.length (lengths f.inputs) (lengths f.locals)
  unfolding stmt
  term_call f arguments is = term_node (DNode-F.Call f arguments) (ap out-DNode is ∙ node.outs-Call f arguments)
      ∙ ap (λ xs. folded_function size f (passed xs)) (cores size arguments)
      ∙ ap (λ (g : Args → Term). g (passed (map (term size) arguments))) (fold_out-DFunction Left (ℕ → Bool → Term) Stmt (Term → Stmt → Stmt) Operand (Args → Term) (Term → Term) (left_step size) node_step stmt_step arm_step expr_step function_step match_step f)

module _ (size : ℕ → ℕ) (l : DLeft) where
  left_node : (x : DLeft-F DLeft DNode DStmt DArm DExpr DFunction DMatch) → out-DLeft l ≡ x → left size l ≡ left_step size (left_parts size x)
  left_node x is = left_out size l ∙ ap (λ y. left_step size (left_parts size y)) is

  pub left_whole : (b : DBase) (n : ℕ) → l ≡ lefts.Whole b n → left size l ≡ slice (base_of b) n (pos 0) n
  left_whole b n is = left_node (DLeft-F.Whole b n) (ap out-DLeft is ∙ lefts.outs-Whole b n)

  pub left_part : (b : DBase) (low : ℤ) (n : ℕ) → l ≡ lefts.Part b low n → left size l ≡ slice (base_of b) (size_of size b) low n
  left_part b low n is = left_node (DLeft-F.Part b low n) (ap out-DLeft is ∙ lefts.outs-Part b low n)

  pub left_at : (b : DBase) (index : DExpr) (offset : ℤ) (down : Bool) (n : ℕ) → l ≡ lefts.At b index offset down n
      → left size l ≡ slice_at (base_of b) (size_of size b) (lowest offset down index.signed) (term size index) n
  unfolding term
  left_at b index offset down n is = left_node (DLeft-F.At b index offset down n) (ap out-DLeft is ∙ lefts.outs-At b index offset down n)
      ∙ ap (λ k. slice_at (base_of b) (size_of size b) (lowest offset down k) (term size index) n) (operand_sign size index)

  pub left_concat : (parts : List DLeft) → l ≡ lefts.Concat parts → left size l ≡ all_left (map (left size) parts)
  unfolding left
  left_concat parts is = left_node (DLeft-F.«DLeft::Concat» parts) (ap out-DLeft is ∙ lefts.outs-Concat parts)

module _ (size : ℕ → ℕ) where
  -- an arm of a case, for a selector
  abbrev pub arm_of : Term → DArm → Arm
  arm_of selector a = record { test = some_match (map (matching size) (out-DArm a).matches) selector; body = stmt size (out-DArm a).body }

  -- the first arm that matches, else what follows
  abbrev pub arms_then : List Arm → Stmt → Stmt
  arms_then [] rest = rest
  arms_then (a ∷ as') rest = choose a.test a.body (arms_then as' rest)

  pub skip_last : (as' : List Arm) → arms_then as' skip ≡ first_arm as'
  skip_last [] = refl
  skip_last (a ∷ as') = ap (choose a.test a.body) (skip_last as')

  pub arms_are : (arms : List DArm) (selector : Term) (rest : Stmt) → arms_in_turn (map (folded_arm size) arms) selector rest ≡ arms_then (map (arm_of selector) arms) rest
  unfolding stmt matching
  arms_are [] selector rest = refl
  arms_are (a ∷ arms) selector rest =
      ap (λ (g : Term → Stmt → Stmt). g selector (arms_in_turn (map (folded_arm size) arms) selector rest))
      (fold_out-DArm Left (ℕ → Bool → Term) Stmt (Term → Stmt → Stmt) Operand (Args → Term) (Term → Term) (left_step size) node_step stmt_step arm_step expr_step function_step match_step a)
      ∙ ap (choose (some_match (map (folded_match size) (out-DArm a).matches) selector) (folded_stmt size (out-DArm a).body)) (arms_are arms selector rest)

  -- an item of a case
  pub matching_is : (m : DMatch) (selector : Term) → matching size m selector ≡ app2 (λ a b. one_bit (all_match a b (free_bits (out-DMatch m).free))) selector (term size (out-DMatch m).value)
  unfolding matching term
  matching_is m selector = ap (λ (g : Term → Term). g selector)
      (fold_out-DMatch Left (ℕ → Bool → Term) Stmt (Term → Stmt → Stmt) Operand (Args → Term) (Term → Term) (left_step size) node_step stmt_step arm_step expr_step function_step match_step m)

module _ (size : ℕ → ℕ) (s : DStmt) where
  stmt_node : (x : DStmt-F DLeft DNode DStmt DArm DExpr DFunction DMatch) → out-DStmt s ≡ x → stmt size s ≡ stmt_step (stmt_parts size x)
  stmt_node x is = stmt_out size s ∙ ap (λ y. stmt_step (stmt_parts size y)) is

  pub stmt_block : (parts : List DStmt) → s ≡ stmts.Block parts → stmt size s ≡ in_turn (map (stmt size) parts)
  unfolding stmt
  stmt_block parts is = stmt_node (DStmt-F.Block parts) (ap out-DStmt is ∙ stmts.outs-Block parts)

  pub stmt_turns : (parts : List DStmt) → s ≡ stmts.Turns parts → stmt size s ≡ in_turn (map (stmt size) parts)
  unfolding stmt
  stmt_turns parts is = stmt_node (DStmt-F.Turns parts) (ap out-DStmt is ∙ stmts.outs-Turns parts)

  pub stmt_write : (l : DLeft) (e : DExpr) (blocking : Bool) → s ≡ stmts.Write l e blocking → stmt size s ≡ write (left size l) (term size e) blocking
  unfolding term left
  stmt_write l e blocking is = stmt_node (DStmt-F.Write l e blocking) (ap out-DStmt is ∙ stmts.outs-Write l e blocking)

  pub stmt_if : (test : DExpr) (a b : DStmt) → s ≡ stmts.If test a b → stmt size s ≡ choose (term size test) (stmt size a) (stmt size b)
  unfolding term stmt
  stmt_if test a b is = stmt_node (DStmt-F.If test a b) (ap out-DStmt is ∙ stmts.outs-If test a b)

  -- a case without default
  pub stmt_case : (selector : DExpr) (arms : List DArm) → s ≡ stmts.Case selector arms None → stmt size s ≡ first_arm (map (arm_of size (term size selector)) arms)
  unfolding term
  stmt_case selector arms is = stmt_node (DStmt-F.Case selector arms None) (ap out-DStmt is ∙ stmts.outs-Case selector arms None)
      ∙ arms_are size arms (term size selector) skip ∙ skip_last size (map (arm_of size (term size selector)) arms)

  -- a case with one
  pub stmt_case_else : (selector : DExpr) (arms : List DArm) (rest : DStmt) → s ≡ stmts.Case selector arms (Some rest)
      → stmt size s ≡ arms_then size (map (arm_of size (term size selector)) arms) (stmt size rest)
  unfolding term stmt
  stmt_case_else selector arms rest is = stmt_node (DStmt-F.Case selector arms (Some rest)) (ap out-DStmt is ∙ stmts.outs-Case selector arms (Some rest))
      ∙ arms_are size arms (term size selector) (stmt size rest)
