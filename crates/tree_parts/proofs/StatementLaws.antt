-- What each kind of statement asks for first, and what it runs.
use Rattle.std.proofs.Common.{◌≡◌, Bool, List, [], ◌∷◌, ◌++◌, ◌∙◌, ap, map, Option}
use Rattle.design_core.specs.declared.tree.DExpr.{DExpr}
use Rattle.design_core.specs.declared.tree.DLeft.{DLeft}
use Rattle.design_core.specs.declared.tree.DLeft.TheOpen.{DStmt-F}
use Rattle.design_core.specs.declared.tree.DStmt.{DStmt, out-DStmt}
use Rattle.design_core.specs.declared.tree.DStmt.TheVariants as stmts
use Rattle.design_core.specs.declared.tree.DArm.{DArm, out-DArm}
use Rattle.tree_parts.specs.Parts.{StmtLayer, children_in, children_of, heads_in, heads_of, items_of, rest_of}

-- by the layer that a statement is made of
pub heads_layer : (s : DStmt) (x : StmtLayer) → out-DStmt s ≡ x → heads_of s ≡ heads_in x
unfolding heads_of
heads_layer s x is = ap heads_in is

pub children_layer : (s : DStmt) (x : StmtLayer) → out-DStmt s ≡ x → children_of s ≡ children_in x
unfolding children_of
children_layer s x is = ap children_in is

module _ (s : DStmt) where
  pub heads_block : (parts : List DStmt) → s ≡ stmts.Block parts → heads_of s ≡ []
  heads_block parts is = heads_layer s (DStmt-F.Block parts) (ap out-DStmt is ∙ stmts.outs-Block parts)

  pub heads_write : (l : DLeft) (e : DExpr) (blocking : Bool) → s ≡ stmts.Write l e blocking → heads_of s ≡ []
  heads_write l e blocking is = heads_layer s (DStmt-F.Write l e blocking) (ap out-DStmt is ∙ stmts.outs-Write l e blocking)

  pub heads_if : (test : DExpr) (a b : DStmt) → s ≡ stmts.If test a b → heads_of s ≡ test ∷ []
  heads_if test a b is = heads_layer s (DStmt-F.If test a b) (ap out-DStmt is ∙ stmts.outs-If test a b)

  pub heads_case : (selector : DExpr) (arms : List DArm) (rest : Option DStmt) → s ≡ stmts.Case selector arms rest → heads_of s ≡ selector ∷ items_of arms
  heads_case selector arms rest is = heads_layer s (DStmt-F.Case selector arms rest) (ap out-DStmt is ∙ stmts.outs-Case selector arms rest)

  pub heads_turns : (parts : List DStmt) → s ≡ stmts.Turns parts → heads_of s ≡ []
  heads_turns parts is = heads_layer s (DStmt-F.Turns parts) (ap out-DStmt is ∙ stmts.outs-Turns parts)

  pub children_block : (parts : List DStmt) → s ≡ stmts.Block parts → children_of s ≡ parts
  children_block parts is = children_layer s (DStmt-F.Block parts) (ap out-DStmt is ∙ stmts.outs-Block parts)

  pub children_write : (l : DLeft) (e : DExpr) (blocking : Bool) → s ≡ stmts.Write l e blocking → children_of s ≡ []
  children_write l e blocking is = children_layer s (DStmt-F.Write l e blocking) (ap out-DStmt is ∙ stmts.outs-Write l e blocking)

  pub children_if : (test : DExpr) (a b : DStmt) → s ≡ stmts.If test a b → children_of s ≡ a ∷ b ∷ []
  children_if test a b is = children_layer s (DStmt-F.If test a b) (ap out-DStmt is ∙ stmts.outs-If test a b)

  pub children_case : (selector : DExpr) (arms : List DArm) (rest : Option DStmt) → s ≡ stmts.Case selector arms rest → children_of s ≡ map (λ (a : DArm). (out-DArm a).body) arms ++ rest_of rest
  children_case selector arms rest is = children_layer s (DStmt-F.Case selector arms rest) (ap out-DStmt is ∙ stmts.outs-Case selector arms rest)

  pub children_turns : (parts : List DStmt) → s ≡ stmts.Turns parts → children_of s ≡ parts
  children_turns parts is = children_layer s (DStmt-F.Turns parts) (ap out-DStmt is ∙ stmts.outs-Turns parts)
