-- Whether a tree is formed and what it weighs: one equation for each constructor.
use Rattle.std.proofs.Common.{◌≡◌, ℕ, Bool, List, map, ◌∙◌, ap, ◌&&◌, Some, None, ℤ}
use Rattle.design_core.specs.declared.operators.Unary.{Unary}
use Rattle.design_core.specs.declared.operators.Binary.{Binary}
use Rattle.design_core.specs.declared.tree.DBase.{DBase}
use Rattle.design_core.specs.declared.tree.DExpr.{DExpr, fold_out-DExpr}
use Rattle.design_core.specs.declared.tree.DNode.{DNode, out-DNode, fold_out-DNode, map-DNode}
use Rattle.design_core.specs.declared.tree.DNode.TheVariants as node
use Rattle.design_core.specs.declared.tree.DLeft.{DLeft, out-DLeft, map-DLeft, fold_out-DLeft}
use Rattle.design_core.specs.declared.tree.DLeft.TheVariants as lefts
use Rattle.design_core.specs.declared.tree.DLeft.TheOpen.{DLeft-F, DNode-F, DStmt-F}
use Rattle.design_core.specs.declared.tree.DStmt.{DStmt, out-DStmt, fold_out-DStmt, map-DStmt}
use Rattle.design_core.specs.declared.tree.DStmt.TheVariants as stmts
use Rattle.design_core.specs.declared.tree.DArm.{DArm, out-DArm, fold_out-DArm}
use Rattle.design_core.specs.declared.tree.DFunction.{DFunction, fold_out-DFunction}
use Rattle.design_core.specs.declared.tree.DMatch.{DMatch, out-DMatch, fold_out-DMatch}
use Rattle.design_core.specs.Formed.{Sized, Node, Place, Body, Branch, Routine, Choice, is_vector, left_size, node_size, stmt_size, arm_size, expr_size, function_size, match_size, sized_expr, sized_node, sized_left, sized_stmt, sized_arm, sized_function, sized_match}

-- an expression of length n, made of a node
abbrev pub at_length : ℕ → Node → Sized
at_length n x = record { length = n; formed = λ ls. is_vector n && x.formed ls; weight = x.weight }

module _ (vs : List ℕ) where
  abbrev pub node_parts : DNode-F DLeft DNode DStmt DArm DExpr DFunction DMatch → DNode-F Place (ℕ → Node) Body Branch Sized Routine Choice
  node_parts = map-DNode DLeft DNode DStmt DArm DExpr DFunction DMatch Place (ℕ → Node) Body Branch Sized Routine Choice (sized_left vs) (sized_node vs) (sized_stmt vs) (sized_arm vs) (sized_expr vs) (sized_function vs) (sized_match vs)

  abbrev pub left_parts : DLeft-F DLeft DNode DStmt DArm DExpr DFunction DMatch → DLeft-F Place (ℕ → Node) Body Branch Sized Routine Choice
  left_parts = map-DLeft DLeft DNode DStmt DArm DExpr DFunction DMatch Place (ℕ → Node) Body Branch Sized Routine Choice (sized_left vs) (sized_node vs) (sized_stmt vs) (sized_arm vs) (sized_expr vs) (sized_function vs) (sized_match vs)

  abbrev pub stmt_parts : DStmt-F DLeft DNode DStmt DArm DExpr DFunction DMatch → DStmt-F Place (ℕ → Node) Body Branch Sized Routine Choice
  stmt_parts = map-DStmt DLeft DNode DStmt DArm DExpr DFunction DMatch Place (ℕ → Node) Body Branch Sized Routine Choice (sized_left vs) (sized_node vs) (sized_stmt vs) (sized_arm vs) (sized_expr vs) (sized_function vs) (sized_match vs)

  pub expr_out : (e : DExpr) → sized_expr vs e ≡ at_length e.length (node_size vs (node_parts (out-DNode e.node)) e.length)
  expr_out e = fold_out-DExpr Place (ℕ → Node) Body Branch Sized Routine Choice (left_size vs) (node_size vs) stmt_size arm_size expr_size function_size match_size e ∙ ap (λ (f : ℕ → Node). at_length e.length (f e.length)) (fold_out-DNode Place (ℕ → Node) Body Branch Sized Routine Choice (left_size vs) (node_size vs) stmt_size arm_size expr_size function_size match_size e.node)

  pub sized_length : (e : DExpr) → (sized_expr vs e).length ≡ e.length
  sized_length e = ap (λ (x : Sized). x.length) (expr_out e)

  pub expr_node : (e : DExpr) (x : DNode-F DLeft DNode DStmt DArm DExpr DFunction DMatch) → out-DNode e.node ≡ x → sized_expr vs e ≡ at_length e.length (node_size vs (node_parts x) e.length)
  expr_node e x is = expr_out e ∙ ap (λ y. at_length e.length (node_size vs (node_parts y) e.length)) is

  pub left_node : (l : DLeft) (x : DLeft-F DLeft DNode DStmt DArm DExpr DFunction DMatch) → out-DLeft l ≡ x → sized_left vs l ≡ left_size vs (left_parts x)
  left_node l x is = fold_out-DLeft Place (ℕ → Node) Body Branch Sized Routine Choice (left_size vs) (node_size vs) stmt_size arm_size expr_size function_size match_size l ∙ ap (λ y. left_size vs (left_parts y)) is

  pub stmt_node : (s : DStmt) (x : DStmt-F DLeft DNode DStmt DArm DExpr DFunction DMatch) → out-DStmt s ≡ x → sized_stmt vs s ≡ stmt_size (stmt_parts x)
  stmt_node s x is = fold_out-DStmt Place (ℕ → Node) Body Branch Sized Routine Choice (left_size vs) (node_size vs) stmt_size arm_size expr_size function_size match_size s ∙ ap (λ y. stmt_size (stmt_parts y)) is

  pub sized_constant : (e : DExpr) (bits : List Bool) → e.node ≡ node.Const bits → sized_expr vs e ≡ at_length e.length (node_size vs (DNode-F.Const bits) e.length)
  sized_constant e bits is = expr_node e (DNode-F.Const bits) (ap out-DNode is ∙ node.outs-Const bits)

  pub sized_signal : (e : DExpr) (s : ℕ) → e.node ≡ node.Signal s → sized_expr vs e ≡ at_length e.length (node_size vs (DNode-F.Signal s) e.length)
  sized_signal e s is = expr_node e (DNode-F.Signal s) (ap out-DNode is ∙ node.outs-Signal s)

  pub sized_local : (e : DExpr) (k : ℕ) → e.node ≡ node.Local k → sized_expr vs e ≡ at_length e.length (node_size vs (DNode-F.Local k) e.length)
  sized_local e k is = expr_node e (DNode-F.Local k) (ap out-DNode is ∙ node.outs-Local k)

  pub sized_select : (e : DExpr) (a : DExpr) (low : ℤ) → e.node ≡ node.Select a low → sized_expr vs e ≡ at_length e.length (node_size vs (DNode-F.Select (sized_expr vs a) low) e.length)
  sized_select e a low is = expr_node e (DNode-F.Select a low) (ap out-DNode is ∙ node.outs-Select a low)

  pub sized_select_at : (e : DExpr) (a : DExpr) (index : DExpr) (offset : ℤ) (down : Bool) → e.node ≡ node.SelectAt a index offset down → sized_expr vs e ≡ at_length e.length (node_size vs (DNode-F.SelectAt (sized_expr vs a) (sized_expr vs index) offset down) e.length)
  sized_select_at e a index offset down is = expr_node e (DNode-F.SelectAt a index offset down) (ap out-DNode is ∙ node.outs-SelectAt a index offset down)

  pub sized_unary : (e : DExpr) (op : Unary) (a : DExpr) → e.node ≡ node.Unary op a → sized_expr vs e ≡ at_length e.length (node_size vs (DNode-F.Unary op (sized_expr vs a)) e.length)
  sized_unary e op a is = expr_node e (DNode-F.Unary op a) (ap out-DNode is ∙ node.outs-Unary op a)

  pub sized_binary : (e : DExpr) (op : Binary) (a : DExpr) (b : DExpr) → e.node ≡ node.Binary op a b → sized_expr vs e ≡ at_length e.length (node_size vs (DNode-F.Binary op (sized_expr vs a) (sized_expr vs b)) e.length)
  sized_binary e op a b is = expr_node e (DNode-F.Binary op a b) (ap out-DNode is ∙ node.outs-Binary op a b)

  pub sized_mux : (e : DExpr) (c : DExpr) (a : DExpr) (b : DExpr) → e.node ≡ node.Mux c a b → sized_expr vs e ≡ at_length e.length (node_size vs (DNode-F.Mux (sized_expr vs c) (sized_expr vs a) (sized_expr vs b)) e.length)
  sized_mux e c a b is = expr_node e (DNode-F.Mux c a b) (ap out-DNode is ∙ node.outs-Mux c a b)

  pub sized_extend : (e : DExpr) (a : DExpr) (keeps : Bool) → e.node ≡ node.Extend a keeps → sized_expr vs e ≡ at_length e.length (node_size vs (DNode-F.Extend (sized_expr vs a) keeps) e.length)
  sized_extend e a keeps is = expr_node e (DNode-F.Extend a keeps) (ap out-DNode is ∙ node.outs-Extend a keeps)

  pub sized_concat : (e : DExpr) (parts : List DExpr) → e.node ≡ node.Concat parts → sized_expr vs e ≡ at_length e.length (node_size vs (DNode-F.«DNode::Concat» (map (sized_expr vs) parts)) e.length)
  sized_concat e parts is = expr_node e (DNode-F.«DNode::Concat» parts) (ap out-DNode is ∙ node.outs-Concat parts)

  pub sized_repeat : (e : DExpr) (count : ℕ) (part : DExpr) → e.node ≡ node.Repeat count part → sized_expr vs e ≡ at_length e.length (node_size vs (DNode-F.Repeat count (sized_expr vs part)) e.length)
  sized_repeat e count part is = expr_node e (DNode-F.Repeat count part) (ap out-DNode is ∙ node.outs-Repeat count part)

  pub sized_call : (e : DExpr) (function : DFunction) (arguments : List DExpr) → e.node ≡ node.Call function arguments → sized_expr vs e ≡ at_length e.length (node_size vs (DNode-F.Call (sized_function vs function) (map (sized_expr vs) arguments)) e.length)
  sized_call e function arguments is = expr_node e (DNode-F.Call function arguments) (ap out-DNode is ∙ node.outs-Call function arguments)

  pub sized_whole : (l : DLeft) (b : DBase) (n : ℕ) → l ≡ lefts.Whole b n → sized_left vs l ≡ left_size vs (DLeft-F.Whole b n)
  sized_whole l b n is = left_node l (DLeft-F.Whole b n) (ap out-DLeft is ∙ lefts.outs-Whole b n)

  pub sized_part : (l : DLeft) (b : DBase) (low : ℤ) (n : ℕ) → l ≡ lefts.Part b low n → sized_left vs l ≡ left_size vs (DLeft-F.Part b low n)
  sized_part l b low n is = left_node l (DLeft-F.Part b low n) (ap out-DLeft is ∙ lefts.outs-Part b low n)

  pub sized_at : (l : DLeft) (b : DBase) (index : DExpr) (offset : ℤ) (down : Bool) (n : ℕ) → l ≡ lefts.At b index offset down n → sized_left vs l ≡ left_size vs (DLeft-F.At b (sized_expr vs index) offset down n)
  sized_at l b index offset down n is = left_node l (DLeft-F.At b index offset down n) (ap out-DLeft is ∙ lefts.outs-At b index offset down n)

  pub sized_left_concat : (l : DLeft) (parts : List DLeft) → l ≡ lefts.Concat parts → sized_left vs l ≡ left_size vs (DLeft-F.«DLeft::Concat» (map (sized_left vs) parts))
  sized_left_concat l parts is = left_node l (DLeft-F.«DLeft::Concat» parts) (ap out-DLeft is ∙ lefts.outs-Concat parts)

  pub sized_block : (s : DStmt) (parts : List DStmt) → s ≡ stmts.Block parts → sized_stmt vs s ≡ stmt_size (DStmt-F.Block (map (sized_stmt vs) parts))
  sized_block s parts is = stmt_node s (DStmt-F.Block parts) (ap out-DStmt is ∙ stmts.outs-Block parts)

  pub sized_write : (s : DStmt) (l : DLeft) (e : DExpr) (blocking : Bool) → s ≡ stmts.Write l e blocking → sized_stmt vs s ≡ stmt_size (DStmt-F.Write (sized_left vs l) (sized_expr vs e) blocking)
  sized_write s l e blocking is = stmt_node s (DStmt-F.Write l e blocking) (ap out-DStmt is ∙ stmts.outs-Write l e blocking)

  pub sized_if : (s : DStmt) (test : DExpr) (a : DStmt) (b : DStmt) → s ≡ stmts.If test a b → sized_stmt vs s ≡ stmt_size (DStmt-F.If (sized_expr vs test) (sized_stmt vs a) (sized_stmt vs b))
  sized_if s test a b is = stmt_node s (DStmt-F.If test a b) (ap out-DStmt is ∙ stmts.outs-If test a b)

  pub sized_turns : (s : DStmt) (parts : List DStmt) → s ≡ stmts.Turns parts → sized_stmt vs s ≡ stmt_size (DStmt-F.Turns (map (sized_stmt vs) parts))
  sized_turns s parts is = stmt_node s (DStmt-F.Turns parts) (ap out-DStmt is ∙ stmts.outs-Turns parts)

  pub sized_case : (s : DStmt) (selector : DExpr) (arms : List DArm) → s ≡ stmts.Case selector arms None
      → sized_stmt vs s ≡ stmt_size (DStmt-F.Case (sized_expr vs selector) (map (sized_arm vs) arms) None)
  sized_case s selector arms is = stmt_node s (DStmt-F.Case selector arms None) (ap out-DStmt is ∙ stmts.outs-Case selector arms None)

  pub sized_case_else : (s : DStmt) (selector : DExpr) (arms : List DArm) (rest : DStmt) → s ≡ stmts.Case selector arms (Some rest)
      → sized_stmt vs s ≡ stmt_size (DStmt-F.Case (sized_expr vs selector) (map (sized_arm vs) arms) (Some (sized_stmt vs rest)))
  sized_case_else s selector arms rest is = stmt_node s (DStmt-F.Case selector arms (Some rest)) (ap out-DStmt is ∙ stmts.outs-Case selector arms (Some rest))

  pub sized_arm_is : (a : DArm) → sized_arm vs a ≡ arm_size (record { matches = map (sized_match vs) (out-DArm a).matches; body = sized_stmt vs (out-DArm a).body })
  sized_arm_is a = fold_out-DArm Place (ℕ → Node) Body Branch Sized Routine Choice (left_size vs) (node_size vs) stmt_size arm_size expr_size function_size match_size a

  pub sized_match_is : (m : DMatch) → sized_match vs m ≡ match_size (record { value = sized_expr vs (out-DMatch m).value; free = (out-DMatch m).free })
  sized_match_is m = fold_out-DMatch Place (ℕ → Node) Body Branch Sized Routine Choice (left_size vs) (node_size vs) stmt_size arm_size expr_size function_size match_size m

  pub sized_function_is : (f : DFunction) → sized_function vs f ≡ function_size (record { length = f.length; signed = f.signed; inputs = f.inputs; locals = f.locals; body = sized_stmt vs f.body })
  sized_function_is f = fold_out-DFunction Place (ℕ → Node) Body Branch Sized Routine Choice (left_size vs) (node_size vs) stmt_size arm_size expr_size function_size match_size f
