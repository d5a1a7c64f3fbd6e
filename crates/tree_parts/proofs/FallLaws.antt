-- The parts of a tree are smaller, in the measures of a walk over trees: twice the size of an expression, and one more for a list of them, and for a statement.
use denote.Param.Weighed.{most, at_most}
use Rattle.std.proofs.Common.{◌≡◌, ℕ, ◌+◌, ◌*◌, ◌<◌, Bool, List, length, get_or, max, ap, sym, ◌∙◌, arith}
use Rattle.std.specs.Borrow.{Bor}
use Rattle.design_core.specs.declared.tree.DExpr.{DExpr, size-DExpr}
use Rattle.design_core.specs.declared.tree.DStmt.{DStmt, size-DStmt}
use Rattle.design_core.specs.declared.tree.DStmt.TheVariants as stmts
use Rattle.design_core.specs.declared.tree.DLeft.{DLeft, size-DLeft}
use Rattle.design_core.proofs.SizeLaws.{smaller_write}
use Rattle.tree_parts.specs.Parts.{asked_of, children_of, heads_of, operands_of, seen}
use Rattle.tree_parts.proofs.PartLaws.{seen_at, seen_length, smaller_children, smaller_heads, smaller_operands}
use Rattle.tree_parts.proofs.AskLaws.{smaller_asked}

pub operands_fall : (e : DExpr) (es : List (Bor DExpr)) → seen es ≡ operands_of e → 2 * most size-DExpr (seen es) + 1 < 2 * size-DExpr e
operands_fall e es is = let s = smaller_operands e in let n = ap (most size-DExpr) is in omega (arith, s, n)

pub heads_fall : (b : DStmt) (es : List (Bor DExpr)) → seen es ≡ heads_of b → 2 * most size-DExpr (seen es) + 1 < 2 * size-DStmt b
heads_fall b es is = let s = smaller_heads b in let n = ap (most size-DExpr) is in omega (arith, s, n)

pub asked_fall : (b : DStmt) (es : List (Bor DExpr)) → seen es ≡ asked_of b → 2 * most size-DExpr (seen es) + 1 < 2 * size-DStmt b + 1
asked_fall b es is = let s = smaller_asked b in let n = ap (most size-DExpr) is in omega (arith, s, n)

pub part_falls : (es : List (Bor DExpr)) (k : ℕ) (x : Bor DExpr) → k < length es → x ≡ get_or es k x → 2 * size-DExpr x.now < 2 * most size-DExpr (seen es) + 1
part_falls es k x lt is =
    let n = seen_length es in
    let s = at_most size-DExpr (seen es) k x.now (omega (arith, lt, n)) in
    let e = ap size-DExpr (seen_at es k x lt ∙ ap (λ (y : Bor DExpr). y.now) (sym is)) in
    omega (arith, s, e)

pub child_falls : (b : DStmt) (cs : List (Bor DStmt)) (k : ℕ) (x : Bor DStmt) → seen cs ≡ children_of b → k < length cs → x ≡ get_or cs k x → 2 * size-DStmt x.now + 1 < 2 * size-DStmt b + 1
child_falls b cs k x is lt at =
    let n = seen_length cs in
    let s = at_most size-DStmt (seen cs) k x.now (omega (arith, lt, n)) in
    let e = ap size-DStmt (seen_at cs k x lt ∙ ap (λ (y : Bor DStmt). y.now) (sym at)) in
    let w = smaller_children b in
    let m = ap (most size-DStmt) is in
    omega (arith, s, e, w, m)

pub write_falls : (s : DStmt) (l : DLeft) (e : DExpr) (blocking : Bool) → s ≡ stmts.Write l e blocking → 2 * max (size-DLeft l) (size-DExpr e) + 1 < 2 * size-DStmt s + 1
write_falls s l e blocking is = let w = smaller_write s l e blocking is in let a = w.0 in let b = w.1 in omega (arith, a, b)

pub part_is : {X : Type 0} (es : List (Bor X)) (k : ℕ) (x : Bor X) → k < length es → x ≡ get_or es k x → get_or (seen es) k x.now ≡ x.now
part_is {X} es k x lt is = seen_at es k x lt ∙ ap (λ (y : Bor X). y.now) (sym is)

pub part_there : {X : Type 0} (es : List (Bor X)) (k : ℕ) → k < length es → k < length (seen es)
part_there {X} es k lt = let n = seen_length es in omega (arith, lt, n)
