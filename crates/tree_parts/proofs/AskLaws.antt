-- What a statement reads before it runs a part of it.
use denote.Param.Weighed.{most}
use Rattle.std.proofs.Common.{◌≡◌, ◌<◌, ◌≤◌, List, [], ◌∷◌, refl, sym, ◌∙◌, ap, Option, arith}
use Rattle.design_core.specs.declared.tree.DExpr.{DExpr, size-DExpr}
use Rattle.design_core.specs.declared.tree.DLeft.TheOpen.{DStmt-F}
use Rattle.design_core.specs.declared.tree.DStmt.{DStmt, out-DStmt, roll-DStmt, roll-out-DStmt, size-DStmt}
use Rattle.design_core.specs.declared.tree.DStmt.TheVariants as stmts
use Rattle.design_core.specs.declared.tree.DArm.{DArm}
use Rattle.tree_parts.specs.Parts.{StmtLayer, asked_in, asked_of, compared_in, heads_in, heads_of, items_of}
use Rattle.tree_parts.proofs.StatementLaws.{heads_layer}
use Rattle.tree_parts.proofs.PartLaws.{smaller_heads}

compared_smaller : (es : List DExpr) → most size-DExpr (compared_in es) ≤ most size-DExpr es
compared_smaller [] = omega arith
compared_smaller (e ∷ []) = omega arith
compared_smaller (e ∷ d ∷ es) = omega arith

layer_smaller : (x : StmtLayer) → most size-DExpr (asked_in x) ≤ most size-DExpr (heads_in x)
layer_smaller (DStmt-F.Block parts) = omega arith
layer_smaller (DStmt-F.Write l e blocking) = omega arith
layer_smaller (DStmt-F.If test a b) = omega arith
layer_smaller (DStmt-F.Case selector arms rest) = compared_smaller (selector ∷ items_of arms)
layer_smaller (DStmt-F.Turns parts) = omega arith

pub smaller_asked : (s : DStmt) → most size-DExpr (asked_of s) < size-DStmt s
unfolding asked_of
smaller_asked s =
    let a = layer_smaller (out-DStmt s) in let h = smaller_heads s in let e = ap (most size-DExpr) (heads_layer s (out-DStmt s) refl) in omega (arith, a, h, e)

layer_other : (s : DStmt) (x : StmtLayer) → out-DStmt s ≡ x → ((selector : DExpr) (arms : List DArm) (rest : Option DStmt) → s ≡ stmts.Case selector arms rest → ⊥) → heads_in x ≡ asked_in x
layer_other s (DStmt-F.Block parts) is f = refl
layer_other s (DStmt-F.Write l e blocking) is f = refl
layer_other s (DStmt-F.If test a b) is f = refl
layer_other s (DStmt-F.Case selector arms rest) is f = absurd (f selector arms rest (sym (roll-out-DStmt s) ∙ ap roll-DStmt is ∙ stmts.rolls-Case selector arms rest))
layer_other s (DStmt-F.Turns parts) is f = refl

pub asked_other : (s : DStmt) → ((selector : DExpr) (arms : List DArm) (rest : Option DStmt) → s ≡ stmts.Case selector arms rest → ⊥) → heads_of s ≡ asked_of s
unfolding asked_of
asked_other s f = heads_layer s (out-DStmt s) refl ∙ layer_other s (out-DStmt s) refl f

pub asked_case : (s : DStmt) (selector : DExpr) (arms : List DArm) (rest : Option DStmt) → s ≡ stmts.Case selector arms rest → compared_in (heads_of s) ≡ asked_of s
unfolding asked_of
asked_case s selector arms rest is =
    let o : out-DStmt s ≡ DStmt-F.Case selector arms rest = ap out-DStmt is ∙ stmts.outs-Case selector arms rest in
    ap compared_in (heads_layer s (DStmt-F.Case selector arms rest) o) ∙ sym (ap asked_in o)
