use Rattle.std.proofs.Common.{arith, ap, [], ◌∷◌, ◌∙◌}
use denote.Param.Weighed.{most, most-append}
use Rattle.vl_tree.specs.declared.modules.Item.{size-Item}
use Rattle.vl_tree.proofs.modules.+item.Goals as goal

pub let_go_all-loop-last-preserved : goal.let_go_all-loop-last-preserved
let_go_all-loop-last-preserved n c =
    let e = ap (most size-Item) c.in-Some.ensures.items ∙ most-append size-Item c.pop.new.self.items (c.in-Some._last ∷ []) in
    let h = c.loop-last.invariant in
    omega (arith, e, h)
