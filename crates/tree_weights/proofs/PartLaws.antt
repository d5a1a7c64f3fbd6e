-- The parts of weights: one equation for each kind of expression, of statement and of left side.
use Rattle.std.proofs.Common.{◌≡◌, ℕ, ◌+◌, Bool, List, length, Option, Some, None, ap, ℤ}
use Rattle.design_core.specs.declared.operators.Unary.{Unary}
use Rattle.design_core.specs.declared.operators.Binary.{Binary}
use Rattle.design_core.specs.declared.tree.DExpr.{DExpr}
use Rattle.design_core.specs.declared.tree.DNode.TheVariants as node
use Rattle.design_core.specs.declared.tree.DLeft.{DLeft}
use Rattle.design_core.specs.declared.tree.DStmt.{DStmt}
use Rattle.design_core.specs.declared.tree.DStmt.TheVariants as stmts
use Rattle.design_core.specs.declared.tree.DArm.{DArm}
use Rattle.design_core.specs.declared.tree.DFunction.{DFunction}
use Rattle.design_core.specs.Formed.{binary_weight, expr_weight, left_length, stmt_weight, unary_weight, variable_weight}
use Rattle.tree_weights.specs.Spines.{NodeLayer, arms_weight, before_last, before_last_in, beside, beside_in, exprs_weight, function_weight, last, last_in, left_weight, spine, spine_in, stmts_weight}

pub spine-Const : (bits : List Bool) → spine (node.Const bits) ≡ None
unfolding spine
spine-Const bits = ap spine_in (node.outs-Const bits)

pub spine-Signal : (s : ℕ) → spine (node.Signal s) ≡ None
unfolding spine
spine-Signal s = ap spine_in (node.outs-Signal s)

pub spine-Local : (k : ℕ) → spine (node.Local k) ≡ None
unfolding spine
spine-Local k = ap spine_in (node.outs-Local k)

pub spine-Select : (a : DExpr) (low : ℤ) → spine (node.Select a low) ≡ Some a
unfolding spine
spine-Select a low = ap spine_in (node.outs-Select a low)

pub spine-SelectAt : (a index : DExpr) (offset : ℤ) (down : Bool) → spine (node.SelectAt a index offset down) ≡ Some a
unfolding spine
spine-SelectAt a index offset down = ap spine_in (node.outs-SelectAt a index offset down)

pub spine-Unary : (op : Unary) (a : DExpr) → spine (node.Unary op a) ≡ Some a
unfolding spine
spine-Unary op a = ap spine_in (node.outs-Unary op a)

pub spine-Binary : (op : Binary) (a b : DExpr) → spine (node.Binary op a b) ≡ Some a
unfolding spine
spine-Binary op a b = ap spine_in (node.outs-Binary op a b)

pub spine-Mux : (c a b : DExpr) → spine (node.Mux c a b) ≡ Some b
unfolding spine
spine-Mux c a b = ap spine_in (node.outs-Mux c a b)

pub spine-Extend : (a : DExpr) (keeps : Bool) → spine (node.Extend a keeps) ≡ Some a
unfolding spine
spine-Extend a keeps = ap spine_in (node.outs-Extend a keeps)

pub spine-Concat : (parts : List DExpr) → spine (node.Concat parts) ≡ None
unfolding spine
spine-Concat parts = ap spine_in (node.outs-Concat parts)

pub spine-Repeat : (count : ℕ) (part : DExpr) → spine (node.Repeat count part) ≡ Some part
unfolding spine
spine-Repeat count part = ap spine_in (node.outs-Repeat count part)

pub spine-Call : (f : DFunction) (arguments : List DExpr) → spine (node.Call f arguments) ≡ None
unfolding spine
spine-Call f arguments = ap spine_in (node.outs-Call f arguments)

module _ (vs ls : List ℕ) where
  pub beside-Const : (bits : List Bool) (n : ℕ) → beside vs ls (node.Const bits) n ≡ 0
  unfolding beside
  beside-Const bits n = ap (λ (x : NodeLayer). beside_in vs ls x n) (node.outs-Const bits)

  pub beside-Signal : (s : ℕ) (n : ℕ) → beside vs ls (node.Signal s) n ≡ 0
  unfolding beside
  beside-Signal s n = ap (λ (x : NodeLayer). beside_in vs ls x n) (node.outs-Signal s)

  pub beside-Local : (k : ℕ) (n : ℕ) → beside vs ls (node.Local k) n ≡ 0
  unfolding beside
  beside-Local k n = ap (λ (x : NodeLayer). beside_in vs ls x n) (node.outs-Local k)

  pub beside-Select : (a : DExpr) (low : ℤ) (n : ℕ) → beside vs ls (node.Select a low) n ≡ 0
  unfolding beside
  beside-Select a low n = ap (λ (x : NodeLayer). beside_in vs ls x n) (node.outs-Select a low)

  pub beside-SelectAt : (a index : DExpr) (offset : ℤ) (down : Bool) (n : ℕ) → beside vs ls (node.SelectAt a index offset down) n ≡ variable_weight a.length index.length + expr_weight vs ls index
  unfolding beside
  beside-SelectAt a index offset down n = ap (λ (x : NodeLayer). beside_in vs ls x n) (node.outs-SelectAt a index offset down)

  pub beside-Unary : (op : Unary) (a : DExpr) (n : ℕ) → beside vs ls (node.Unary op a) n ≡ unary_weight op a.length
  unfolding beside
  beside-Unary op a n = ap (λ (x : NodeLayer). beside_in vs ls x n) (node.outs-Unary op a)

  pub beside-Binary : (op : Binary) (a b : DExpr) (n : ℕ) → beside vs ls (node.Binary op a b) n ≡ binary_weight op a.length b.length + expr_weight vs ls b
  unfolding beside
  beside-Binary op a b n = ap (λ (x : NodeLayer). beside_in vs ls x n) (node.outs-Binary op a b)

  pub beside-Mux : (c a b : DExpr) (n : ℕ) → beside vs ls (node.Mux c a b) n ≡ n + expr_weight vs ls c + expr_weight vs ls a
  unfolding beside
  beside-Mux c a b n = ap (λ (x : NodeLayer). beside_in vs ls x n) (node.outs-Mux c a b)

  pub beside-Extend : (a : DExpr) (keeps : Bool) (n : ℕ) → beside vs ls (node.Extend a keeps) n ≡ 0
  unfolding beside
  beside-Extend a keeps n = ap (λ (x : NodeLayer). beside_in vs ls x n) (node.outs-Extend a keeps)

  pub beside-Concat : (parts : List DExpr) (n : ℕ) → beside vs ls (node.Concat parts) n ≡ exprs_weight vs ls parts
  unfolding beside
  beside-Concat parts n = ap (λ (x : NodeLayer). beside_in vs ls x n) (node.outs-Concat parts)

  pub beside-Repeat : (count : ℕ) (part : DExpr) (n : ℕ) → beside vs ls (node.Repeat count part) n ≡ 0
  unfolding beside
  beside-Repeat count part n = ap (λ (x : NodeLayer). beside_in vs ls x n) (node.outs-Repeat count part)

  pub beside-Call : (f : DFunction) (arguments : List DExpr) (n : ℕ) → beside vs ls (node.Call f arguments) n ≡ function_weight vs f + exprs_weight vs ls arguments
  unfolding beside
  beside-Call f arguments n = ap (λ (x : NodeLayer). beside_in vs ls x n) (node.outs-Call f arguments)

  pub before-Block : (parts : List DStmt) → before_last vs ls (stmts.Block parts) ≡ stmts_weight vs ls parts
  unfolding before_last
  before-Block parts = ap (before_last_in vs ls) (stmts.outs-Block parts)

  pub before-Write : (left : DLeft) (right : DExpr) (blocking : Bool) → before_last vs ls (stmts.Write left right blocking) ≡ left_length vs left + left_weight vs ls left + expr_weight vs ls right
  unfolding before_last
  before-Write left right blocking = ap (before_last_in vs ls) (stmts.outs-Write left right blocking)

  pub before-If : (test : DExpr) (a b : DStmt) → before_last vs ls (stmts.If test a b) ≡ expr_weight vs ls test + 1 + stmt_weight vs ls a
  unfolding before_last
  before-If test a b = ap (before_last_in vs ls) (stmts.outs-If test a b)

  pub before-Case : (selector : DExpr) (arms : List DArm) (rest : Option DStmt) → before_last vs ls (stmts.Case selector arms rest) ≡ expr_weight vs ls selector + arms_weight vs ls selector.length arms
  unfolding before_last
  before-Case selector arms rest = ap (before_last_in vs ls) (stmts.outs-Case selector arms rest)

  pub before-Turns : (parts : List DStmt) → before_last vs ls (stmts.Turns parts) ≡ length parts + stmts_weight vs ls parts
  unfolding before_last
  before-Turns parts = ap (before_last_in vs ls) (stmts.outs-Turns parts)

pub last-Block : (parts : List DStmt) → last (stmts.Block parts) ≡ None
unfolding last
last-Block parts = ap last_in (stmts.outs-Block parts)

pub last-Write : (left : DLeft) (right : DExpr) (blocking : Bool) → last (stmts.Write left right blocking) ≡ None
unfolding last
last-Write left right blocking = ap last_in (stmts.outs-Write left right blocking)

pub last-If : (test : DExpr) (a b : DStmt) → last (stmts.If test a b) ≡ Some b
unfolding last
last-If test a b = ap last_in (stmts.outs-If test a b)

pub last-Case : (selector : DExpr) (arms : List DArm) (rest : Option DStmt) → last (stmts.Case selector arms rest) ≡ rest
unfolding last
last-Case selector arms rest = ap last_in (stmts.outs-Case selector arms rest)

pub last-Turns : (parts : List DStmt) → last (stmts.Turns parts) ≡ None
unfolding last
last-Turns parts = ap last_in (stmts.outs-Turns parts)
