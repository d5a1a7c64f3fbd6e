-- Parts of trees are less deep.
use denote.Param.Weighed.{most, at_most}
use Rattle.std.proofs.Common.{length, get_or, ◌≡◌, ℕ, ◌<◌, ◌≤◌, Bool, List, ap, ◌∙◌, arith, ℤ, Option, Some, None}
use Rattle.design_core.specs.declared.operators.Unary.{Unary}
use Rattle.design_core.specs.declared.operators.Binary.{Binary}
use Rattle.design_core.specs.declared.tree.DBase.{DBase}
use Rattle.design_core.specs.declared.tree.DExpr.{DExpr, size-DExpr, size_is-DExpr}
use Rattle.design_core.specs.declared.tree.DNode.{size-DNode}
use Rattle.design_core.specs.declared.tree.DNode.TheVariants as node
use Rattle.design_core.specs.declared.tree.DLeft.{DLeft, size-DLeft}
use Rattle.design_core.specs.declared.tree.DLeft.TheVariants as lefts
use Rattle.design_core.specs.declared.tree.DLeft.TheViews as sizes
use Rattle.design_core.specs.declared.tree.DStmt.{DStmt, size-DStmt}
use Rattle.design_core.specs.declared.tree.DStmt.TheVariants as stmts
use Rattle.design_core.specs.declared.tree.DArm.{DArm, out-DArm, size-DArm, size_is-DArm}
use Rattle.design_core.specs.declared.tree.DMatch.{DMatch, out-DMatch, size-DMatch, size_is-DMatch}
use Rattle.design_core.specs.declared.tree.DFunction.{DFunction, size-DFunction, size_is-DFunction}

-- what follows the arms of a case
abbrev pub rest_size : Option DStmt → ℕ
rest_size None = 0
rest_size (Some s) = size-DStmt s

pub expr_in : (parts : List DExpr) (k : ℕ) (d : DExpr) → k < length parts → size-DExpr (get_or parts k d) ≤ most size-DExpr parts
expr_in parts k d lt = at_most size-DExpr parts k d lt

pub stmt_in : (parts : List DStmt) (k : ℕ) (d : DStmt) → k < length parts → size-DStmt (get_or parts k d) ≤ most size-DStmt parts
stmt_in parts k d lt = at_most size-DStmt parts k d lt

pub left_in : (parts : List DLeft) (k : ℕ) (d : DLeft) → k < length parts → size-DLeft (get_or parts k d) ≤ most size-DLeft parts
left_in parts k d lt = at_most size-DLeft parts k d lt

pub arm_in : (parts : List DArm) (k : ℕ) (d : DArm) → k < length parts → size-DArm (get_or parts k d) ≤ most size-DArm parts
arm_in parts k d lt = at_most size-DArm parts k d lt

pub match_in : (parts : List DMatch) (k : ℕ) (d : DMatch) → k < length parts → size-DMatch (get_or parts k d) ≤ most size-DMatch parts
match_in parts k d lt = at_most size-DMatch parts k d lt

module _ (e : DExpr) where
  pub smaller_select : (base : DExpr) (low : ℤ) → e.node ≡ node.Select base low → (size-DExpr base < size-DExpr e)
  smaller_select base low is = let s = ap size-DNode is ∙ sizes.sized-Select base low in let w = size_is-DExpr e in omega (arith, s, w)

  pub smaller_select_at : (base index : DExpr) (offset : ℤ) (down : Bool) → e.node ≡ node.SelectAt base index offset down → (size-DExpr base < size-DExpr e) × (size-DExpr index < size-DExpr e)
  smaller_select_at base index offset down is = let s = ap size-DNode is ∙ sizes.sized-SelectAt base index offset down in let w = size_is-DExpr e in (omega (arith, s, w), omega (arith, s, w))

  pub smaller_unary : (op : Unary) (a : DExpr) → e.node ≡ node.Unary op a → (size-DExpr a < size-DExpr e)
  smaller_unary op a is = let s = ap size-DNode is ∙ sizes.sized-Unary op a in let w = size_is-DExpr e in omega (arith, s, w)

  pub smaller_binary : (op : Binary) (a b : DExpr) → e.node ≡ node.Binary op a b → (size-DExpr a < size-DExpr e) × (size-DExpr b < size-DExpr e)
  smaller_binary op a b is = let s = ap size-DNode is ∙ sizes.sized-Binary op a b in let w = size_is-DExpr e in (omega (arith, s, w), omega (arith, s, w))

  pub smaller_mux : (k a b : DExpr) → e.node ≡ node.Mux k a b → (size-DExpr k < size-DExpr e) × (size-DExpr a < size-DExpr e) × (size-DExpr b < size-DExpr e)
  smaller_mux k a b is = let s = ap size-DNode is ∙ sizes.sized-Mux k a b in let w = size_is-DExpr e in (omega (arith, s, w), omega (arith, s, w), omega (arith, s, w))

  pub smaller_extend : (a : DExpr) (keeps : Bool) → e.node ≡ node.Extend a keeps → (size-DExpr a < size-DExpr e)
  smaller_extend a keeps is = let s = ap size-DNode is ∙ sizes.sized-Extend a keeps in let w = size_is-DExpr e in omega (arith, s, w)

  pub smaller_concat : (parts : List DExpr) → e.node ≡ node.Concat parts → (most size-DExpr parts < size-DExpr e)
  smaller_concat parts is = let s = ap size-DNode is ∙ sizes.«sized-DNode::Concat» parts in let w = size_is-DExpr e in omega (arith, s, w)

  pub smaller_repeat : (count : ℕ) (a : DExpr) → e.node ≡ node.Repeat count a → (size-DExpr a < size-DExpr e)
  smaller_repeat count a is = let s = ap size-DNode is ∙ sizes.sized-Repeat count a in let w = size_is-DExpr e in omega (arith, s, w)

  pub smaller_call : (f : DFunction) (parts : List DExpr) → e.node ≡ node.Call f parts → (size-DFunction f < size-DExpr e) × (most size-DExpr parts < size-DExpr e)
  smaller_call f parts is = let s = ap size-DNode is ∙ sizes.sized-Call f parts in let w = size_is-DExpr e in (omega (arith, s, w), omega (arith, s, w))

pub smaller_body : (f : DFunction) → size-DStmt f.body < size-DFunction f
smaller_body f = let w = size_is-DFunction f in omega (arith, w)

module _ (s : DStmt) where
  pub smaller_block : (parts : List DStmt) → s ≡ stmts.Block parts → most size-DStmt parts < size-DStmt s
  smaller_block parts is = let w = ap size-DStmt is ∙ sizes.sized-Block parts in omega (arith, w)

  pub smaller_turns : (parts : List DStmt) → s ≡ stmts.Turns parts → most size-DStmt parts < size-DStmt s
  smaller_turns parts is = let w = ap size-DStmt is ∙ sizes.sized-Turns parts in omega (arith, w)

  pub smaller_write : (l : DLeft) (e : DExpr) (blocking : Bool) → s ≡ stmts.Write l e blocking → (size-DLeft l < size-DStmt s) × (size-DExpr e < size-DStmt s)
  smaller_write l e blocking is = let w = ap size-DStmt is ∙ sizes.sized-Write l e blocking in (omega (arith, w), omega (arith, w))

  pub smaller_if : (test : DExpr) (a b : DStmt) → s ≡ stmts.If test a b → (size-DExpr test < size-DStmt s) × (size-DStmt a < size-DStmt s) × (size-DStmt b < size-DStmt s)
  smaller_if test a b is = let w = ap size-DStmt is ∙ sizes.sized-If test a b in (omega (arith, w), omega (arith, w), omega (arith, w))

  pub smaller_case : (selector : DExpr) (arms : List DArm) (rest : Option DStmt) → s ≡ stmts.Case selector arms rest → (size-DExpr selector < size-DStmt s) × (most size-DArm arms < size-DStmt s) × (rest_size rest < size-DStmt s)
  smaller_case selector arms None is = let w = ap size-DStmt is ∙ sizes.sized-Case selector arms None in (omega (arith, w), omega (arith, w), omega (arith, w))
  smaller_case selector arms (Some rest) is = let w = ap size-DStmt is ∙ sizes.sized-Case selector arms (Some rest) in (omega (arith, w), omega (arith, w), omega (arith, w))

pub smaller_arm : (a : DArm) → (most size-DMatch (out-DArm a).matches < size-DArm a) × (size-DStmt (out-DArm a).body < size-DArm a)
smaller_arm a = let w = size_is-DArm a in (omega (arith, w), omega (arith, w))

pub smaller_match : (x : DMatch) → size-DExpr (out-DMatch x).value < size-DMatch x
smaller_match x = let w = size_is-DMatch x in omega (arith, w)

module _ (l : DLeft) where
  pub smaller_index : (b : DBase) (index : DExpr) (offset : ℤ) (down : Bool) (n : ℕ) → l ≡ lefts.At b index offset down n → size-DExpr index < size-DLeft l
  smaller_index b index offset down n is = let w = ap size-DLeft is ∙ sizes.sized-At b index offset down n in omega (arith, w)

  pub smaller_parts : (parts : List DLeft) → l ≡ lefts.Concat parts → most size-DLeft parts < size-DLeft l
  smaller_parts parts is = let w = ap size-DLeft is ∙ sizes.«sized-DLeft::Concat» parts in omega (arith, w)
