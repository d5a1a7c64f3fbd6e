use Rattle.std.proofs.Common.{arith, ap, [], ◌∷◌, ◌∙◌}
use denote.Param.Weighed.{most, most-append}
use Rattle.vl_tree.specs.declared.expressions.Expr.{size-Expr}
use Rattle.vl_tree.proofs.expressions.+expr.Goals as goal

pub let_go_all-loop-last-preserved : goal.let_go_all-loop-last-preserved
let_go_all-loop-last-preserved n c =
    let e = ap (most size-Expr) c.in-Some.ensures.items ∙ most-append size-Expr c.pop.new.self.items (c.in-Some._last ∷ []) in
    let h = c.loop-last.invariant in
    omega (arith, e, h)
