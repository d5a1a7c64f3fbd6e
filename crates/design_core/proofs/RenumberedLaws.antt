-- A tree under other numbers: one equation for each constructor.
use Rattle.std.proofs.Common.{◌≡◌, ℕ, Bool, List, map, ◌∙◌, ap, Option, Some, None, ℤ}
use Rattle.std.specs.Option.{option_map}
use Rattle.design_core.specs.declared.operators.Unary.{Unary}
use Rattle.design_core.specs.declared.operators.Binary.{Binary}
use Rattle.design_core.specs.declared.tree.DBase.{DBase}
use Rattle.design_core.specs.declared.tree.DExpr.{DExpr, fold_out-DExpr}
use Rattle.design_core.specs.declared.tree.DNode.{DNode, out-DNode, fold_out-DNode, map-DNode}
use Rattle.design_core.specs.declared.tree.DNode.TheVariants as node
use Rattle.design_core.specs.declared.tree.DLeft.{DLeft, out-DLeft, map-DLeft, fold_out-DLeft}
use Rattle.design_core.specs.declared.tree.DLeft.TheVariants as lefts
use Rattle.design_core.specs.declared.tree.DLeft.TheOpen.{DLeft-F, DNode-F, DStmt-F}
use Rattle.design_core.specs.declared.tree.DStmt.{DStmt, out-DStmt, roll-DStmt, fold_out-DStmt, map-DStmt}
use Rattle.design_core.specs.declared.tree.DStmt.TheVariants as stmts
use Rattle.design_core.specs.declared.tree.DArm.{DArm, out-DArm, roll-DArm, fold_out-DArm}
use Rattle.design_core.specs.declared.tree.DFunction.{DFunction, fold_out-DFunction}
use Rattle.design_core.specs.declared.tree.DMatch.{DMatch, out-DMatch, roll-DMatch, fold_out-DMatch}
use Rattle.design_core.specs.Renumbered.{left_renumbered, node_renumbered, expr_renumbered, function_renumbered, renumbered_base, renumbered_expr, renumbered_node, renumbered_left, renumbered_stmt, renumbered_arm, renumbered_function, renumbered_match}
use Rattle.design_core.proofs.TreeInduction.{NodeLayer, LeftLayer, StmtLayer}

module _ (ρ : ℕ → ℕ) where
  abbrev pub node_parts : NodeLayer → NodeLayer
  node_parts = map-DNode DLeft DNode DStmt DArm DExpr DFunction DMatch DLeft DNode DStmt DArm DExpr DFunction DMatch (renumbered_left ρ) (renumbered_node ρ) (renumbered_stmt ρ) (renumbered_arm ρ) (renumbered_expr ρ) (renumbered_function ρ) (renumbered_match ρ)

  abbrev pub left_parts : LeftLayer → LeftLayer
  left_parts = map-DLeft DLeft DNode DStmt DArm DExpr DFunction DMatch DLeft DNode DStmt DArm DExpr DFunction DMatch (renumbered_left ρ) (renumbered_node ρ) (renumbered_stmt ρ) (renumbered_arm ρ) (renumbered_expr ρ) (renumbered_function ρ) (renumbered_match ρ)

  abbrev pub stmt_parts : StmtLayer → StmtLayer
  stmt_parts = map-DStmt DLeft DNode DStmt DArm DExpr DFunction DMatch DLeft DNode DStmt DArm DExpr DFunction DMatch (renumbered_left ρ) (renumbered_node ρ) (renumbered_stmt ρ) (renumbered_arm ρ) (renumbered_expr ρ) (renumbered_function ρ) (renumbered_match ρ)

  pub expr_out : (e : DExpr) → renumbered_expr ρ e ≡ record { length = e.length; signed = e.signed; node = renumbered_node ρ e.node }
  unfolding renumbered_expr renumbered_node
  expr_out e = fold_out-DExpr DLeft DNode DStmt DArm DExpr DFunction DMatch (left_renumbered ρ) (node_renumbered ρ) roll-DStmt roll-DArm expr_renumbered function_renumbered roll-DMatch e

  pub node_out : (n : DNode) (x : NodeLayer) → out-DNode n ≡ x → renumbered_node ρ n ≡ node_renumbered ρ (node_parts x)
  unfolding renumbered_expr renumbered_node renumbered_left renumbered_stmt renumbered_arm renumbered_function renumbered_match
  node_out n x is = fold_out-DNode DLeft DNode DStmt DArm DExpr DFunction DMatch (left_renumbered ρ) (node_renumbered ρ) roll-DStmt roll-DArm expr_renumbered function_renumbered roll-DMatch n ∙ ap (λ y. node_renumbered ρ (node_parts y)) is

  pub left_out : (l : DLeft) (x : LeftLayer) → out-DLeft l ≡ x → renumbered_left ρ l ≡ left_renumbered ρ (left_parts x)
  unfolding renumbered_expr renumbered_node renumbered_left renumbered_stmt renumbered_arm renumbered_function renumbered_match
  left_out l x is = fold_out-DLeft DLeft DNode DStmt DArm DExpr DFunction DMatch (left_renumbered ρ) (node_renumbered ρ) roll-DStmt roll-DArm expr_renumbered function_renumbered roll-DMatch l ∙ ap (λ y. left_renumbered ρ (left_parts y)) is

  pub stmt_out : (s : DStmt) (x : StmtLayer) → out-DStmt s ≡ x → renumbered_stmt ρ s ≡ roll-DStmt (stmt_parts x)
  unfolding renumbered_expr renumbered_node renumbered_left renumbered_stmt renumbered_arm renumbered_function renumbered_match
  stmt_out s x is = fold_out-DStmt DLeft DNode DStmt DArm DExpr DFunction DMatch (left_renumbered ρ) (node_renumbered ρ) roll-DStmt roll-DArm expr_renumbered function_renumbered roll-DMatch s ∙ ap (λ y. roll-DStmt (stmt_parts y)) is

  pub constant_again : (n : DNode) (bits : List Bool) → n ≡ node.Const bits → renumbered_node ρ n ≡ node.Const bits
  constant_again n bits is = node_out n (DNode-F.Const bits) (ap out-DNode is ∙ node.outs-Const bits) ∙ node.rolls-Const bits

  pub signal_again : (n : DNode) (s : ℕ) → n ≡ node.Signal s → renumbered_node ρ n ≡ node.Signal (ρ s)
  signal_again n s is = node_out n (DNode-F.Signal s) (ap out-DNode is ∙ node.outs-Signal s) ∙ node.rolls-Signal (ρ s)

  pub local_again : (n : DNode) (k : ℕ) → n ≡ node.Local k → renumbered_node ρ n ≡ node.Local k
  local_again n k is = node_out n (DNode-F.Local k) (ap out-DNode is ∙ node.outs-Local k) ∙ node.rolls-Local k

  pub select_again : (n : DNode) (a : DExpr) (low : ℤ) → n ≡ node.Select a low → renumbered_node ρ n ≡ node.Select (renumbered_expr ρ a) low
  select_again n a low is = node_out n (DNode-F.Select a low) (ap out-DNode is ∙ node.outs-Select a low) ∙ node.rolls-Select (renumbered_expr ρ a) low

  pub select_at_again : (n : DNode) (a : DExpr) (index : DExpr) (offset : ℤ) (down : Bool) → n ≡ node.SelectAt a index offset down → renumbered_node ρ n ≡ node.SelectAt (renumbered_expr ρ a) (renumbered_expr ρ index) offset down
  select_at_again n a index offset down is = node_out n (DNode-F.SelectAt a index offset down) (ap out-DNode is ∙ node.outs-SelectAt a index offset down) ∙ node.rolls-SelectAt (renumbered_expr ρ a) (renumbered_expr ρ index) offset down

  pub unary_again : (n : DNode) (op : Unary) (a : DExpr) → n ≡ node.Unary op a → renumbered_node ρ n ≡ node.Unary op (renumbered_expr ρ a)
  unary_again n op a is = node_out n (DNode-F.Unary op a) (ap out-DNode is ∙ node.outs-Unary op a) ∙ node.rolls-Unary op (renumbered_expr ρ a)

  pub binary_again : (n : DNode) (op : Binary) (a : DExpr) (b : DExpr) → n ≡ node.Binary op a b → renumbered_node ρ n ≡ node.Binary op (renumbered_expr ρ a) (renumbered_expr ρ b)
  binary_again n op a b is = node_out n (DNode-F.Binary op a b) (ap out-DNode is ∙ node.outs-Binary op a b) ∙ node.rolls-Binary op (renumbered_expr ρ a) (renumbered_expr ρ b)

  pub mux_again : (n : DNode) (c : DExpr) (a : DExpr) (b : DExpr) → n ≡ node.Mux c a b → renumbered_node ρ n ≡ node.Mux (renumbered_expr ρ c) (renumbered_expr ρ a) (renumbered_expr ρ b)
  mux_again n c a b is = node_out n (DNode-F.Mux c a b) (ap out-DNode is ∙ node.outs-Mux c a b) ∙ node.rolls-Mux (renumbered_expr ρ c) (renumbered_expr ρ a) (renumbered_expr ρ b)

  pub extend_again : (n : DNode) (a : DExpr) (by_sign : Bool) → n ≡ node.Extend a by_sign → renumbered_node ρ n ≡ node.Extend (renumbered_expr ρ a) by_sign
  extend_again n a by_sign is = node_out n (DNode-F.Extend a by_sign) (ap out-DNode is ∙ node.outs-Extend a by_sign) ∙ node.rolls-Extend (renumbered_expr ρ a) by_sign

  pub concat_again : (n : DNode) (parts : List DExpr) → n ≡ node.Concat parts → renumbered_node ρ n ≡ node.Concat (map (renumbered_expr ρ) parts)
  concat_again n parts is = node_out n (DNode-F.«DNode::Concat» parts) (ap out-DNode is ∙ node.outs-Concat parts) ∙ node.rolls-Concat (map (renumbered_expr ρ) parts)

  pub repeat_again : (n : DNode) (count : ℕ) (part : DExpr) → n ≡ node.Repeat count part → renumbered_node ρ n ≡ node.Repeat count (renumbered_expr ρ part)
  repeat_again n count part is = node_out n (DNode-F.Repeat count part) (ap out-DNode is ∙ node.outs-Repeat count part) ∙ node.rolls-Repeat count (renumbered_expr ρ part)

  pub call_again : (n : DNode) (function : DFunction) (arguments : List DExpr) → n ≡ node.Call function arguments → renumbered_node ρ n ≡ node.Call (renumbered_function ρ function) (map (renumbered_expr ρ) arguments)
  call_again n function arguments is = node_out n (DNode-F.Call function arguments) (ap out-DNode is ∙ node.outs-Call function arguments) ∙ node.rolls-Call (renumbered_function ρ function) (map (renumbered_expr ρ) arguments)

  pub whole_again : (l : DLeft) (b : DBase) (n : ℕ) → l ≡ lefts.Whole b n → renumbered_left ρ l ≡ lefts.Whole (renumbered_base ρ b) n
  whole_again l b n is = left_out l (DLeft-F.Whole b n) (ap out-DLeft is ∙ lefts.outs-Whole b n) ∙ lefts.rolls-Whole (renumbered_base ρ b) n

  pub part_again : (l : DLeft) (b : DBase) (low : ℤ) (n : ℕ) → l ≡ lefts.Part b low n → renumbered_left ρ l ≡ lefts.Part (renumbered_base ρ b) low n
  part_again l b low n is = left_out l (DLeft-F.Part b low n) (ap out-DLeft is ∙ lefts.outs-Part b low n) ∙ lefts.rolls-Part (renumbered_base ρ b) low n

  pub at_again : (l : DLeft) (b : DBase) (index : DExpr) (offset : ℤ) (down : Bool) (n : ℕ) → l ≡ lefts.At b index offset down n → renumbered_left ρ l ≡ lefts.At (renumbered_base ρ b) (renumbered_expr ρ index) offset down n
  at_again l b index offset down n is = left_out l (DLeft-F.At b index offset down n) (ap out-DLeft is ∙ lefts.outs-At b index offset down n) ∙ lefts.rolls-At (renumbered_base ρ b) (renumbered_expr ρ index) offset down n

  pub left_concat_again : (l : DLeft) (parts : List DLeft) → l ≡ lefts.Concat parts → renumbered_left ρ l ≡ lefts.Concat (map (renumbered_left ρ) parts)
  left_concat_again l parts is = left_out l (DLeft-F.«DLeft::Concat» parts) (ap out-DLeft is ∙ lefts.outs-Concat parts) ∙ lefts.rolls-Concat (map (renumbered_left ρ) parts)

  pub block_again : (s : DStmt) (parts : List DStmt) → s ≡ stmts.Block parts → renumbered_stmt ρ s ≡ stmts.Block (map (renumbered_stmt ρ) parts)
  block_again s parts is = stmt_out s (DStmt-F.Block parts) (ap out-DStmt is ∙ stmts.outs-Block parts) ∙ stmts.rolls-Block (map (renumbered_stmt ρ) parts)

  pub write_again : (s : DStmt) (l : DLeft) (e : DExpr) (blocking : Bool) → s ≡ stmts.Write l e blocking → renumbered_stmt ρ s ≡ stmts.Write (renumbered_left ρ l) (renumbered_expr ρ e) blocking
  write_again s l e blocking is = stmt_out s (DStmt-F.Write l e blocking) (ap out-DStmt is ∙ stmts.outs-Write l e blocking) ∙ stmts.rolls-Write (renumbered_left ρ l) (renumbered_expr ρ e) blocking

  pub if_again : (s : DStmt) (test : DExpr) (a : DStmt) (b : DStmt) → s ≡ stmts.If test a b → renumbered_stmt ρ s ≡ stmts.If (renumbered_expr ρ test) (renumbered_stmt ρ a) (renumbered_stmt ρ b)
  if_again s test a b is = stmt_out s (DStmt-F.If test a b) (ap out-DStmt is ∙ stmts.outs-If test a b) ∙ stmts.rolls-If (renumbered_expr ρ test) (renumbered_stmt ρ a) (renumbered_stmt ρ b)

  pub turns_again : (s : DStmt) (parts : List DStmt) → s ≡ stmts.Turns parts → renumbered_stmt ρ s ≡ stmts.Turns (map (renumbered_stmt ρ) parts)
  turns_again s parts is = stmt_out s (DStmt-F.Turns parts) (ap out-DStmt is ∙ stmts.outs-Turns parts) ∙ stmts.rolls-Turns (map (renumbered_stmt ρ) parts)

  pub case_again : (s : DStmt) (selector : DExpr) (arms : List DArm) (rest : Option DStmt) → s ≡ stmts.Case selector arms rest
      → renumbered_stmt ρ s ≡ stmts.Case (renumbered_expr ρ selector) (map (renumbered_arm ρ) arms) (option_map (renumbered_stmt ρ) rest)
  case_again s selector arms None is =
      stmt_out s (DStmt-F.Case selector arms None) (ap out-DStmt is ∙ stmts.outs-Case selector arms None) ∙ stmts.rolls-Case (renumbered_expr ρ selector) (map (renumbered_arm ρ) arms) None
  case_again s selector arms (Some rest) is =
      stmt_out s (DStmt-F.Case selector arms (Some rest)) (ap out-DStmt is ∙ stmts.outs-Case selector arms (Some rest))
      ∙ stmts.rolls-Case (renumbered_expr ρ selector) (map (renumbered_arm ρ) arms) (Some (renumbered_stmt ρ rest))

  pub arm_out : (a : DArm) → renumbered_arm ρ a ≡ roll-DArm (record { matches = map (renumbered_match ρ) (out-DArm a).matches; body = renumbered_stmt ρ (out-DArm a).body })
  unfolding renumbered_expr renumbered_node renumbered_left renumbered_stmt renumbered_arm renumbered_function renumbered_match
  arm_out a = fold_out-DArm DLeft DNode DStmt DArm DExpr DFunction DMatch (left_renumbered ρ) (node_renumbered ρ) roll-DStmt roll-DArm expr_renumbered function_renumbered roll-DMatch a

  pub match_out : (m : DMatch) → renumbered_match ρ m ≡ roll-DMatch (record { value = renumbered_expr ρ (out-DMatch m).value; free = (out-DMatch m).free })
  unfolding renumbered_expr renumbered_node renumbered_left renumbered_stmt renumbered_arm renumbered_function renumbered_match
  match_out m = fold_out-DMatch DLeft DNode DStmt DArm DExpr DFunction DMatch (left_renumbered ρ) (node_renumbered ρ) roll-DStmt roll-DArm expr_renumbered function_renumbered roll-DMatch m

  pub function_out : (f : DFunction) → renumbered_function ρ f
      ≡ record { length = f.length; signed = f.signed; inputs = f.inputs; locals = f.locals; body = renumbered_stmt ρ f.body }
  unfolding renumbered_expr renumbered_node renumbered_left renumbered_stmt renumbered_arm renumbered_function renumbered_match
  function_out f = fold_out-DFunction DLeft DNode DStmt DArm DExpr DFunction DMatch (left_renumbered ρ) (node_renumbered ρ) roll-DStmt roll-DArm expr_renumbered function_renumbered roll-DMatch f
