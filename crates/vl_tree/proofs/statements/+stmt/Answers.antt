use Rattle.std.proofs.Common.{arith, ap, [], ◌∷◌, ◌∙◌}
use denote.Param.Weighed.{most, most-append}
use Rattle.vl_tree.specs.declared.statements.Stmt.{size-Stmt}
use Rattle.vl_tree.proofs.statements.+stmt.Goals as goal

pub let_go_all-loop-last-preserved : goal.let_go_all-loop-last-preserved
let_go_all-loop-last-preserved n c =
    let e = ap (most size-Stmt) c.in-Some.ensures.items ∙ most-append size-Stmt c.pop.new.self.items (c.in-Some._last ∷ []) in
    let h = c.loop-last.invariant in
    omega (arith, e, h)
