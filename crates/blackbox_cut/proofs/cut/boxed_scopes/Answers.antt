use Rattle.std.proofs.Common.{◌≡◌, ◌<◌, length, refl, arith, ap, ◌∙◌, length-set, get_or, sym}
use Rattle.design_core.specs.declared.signals.Scope.{Scope}
use Rattle.blackbox_cut.specs.Boxes.{is_among}
use Rattle.blackbox_cut.proofs.BoxLaws.{mark_next, mark_of, marked_more, parent_is}
use Rattle.blackbox_cut.proofs.KeptLaws.{parents_are_lower}
use Rattle.blackbox_cut.proofs.cut.boxed_scopes.Goals as goal

pub loop-at-preserved : goal.loop-at-preserved
loop-at-preserved c =
    let scopes = c.args.design.now.scopes in
    let boxes = is_among c.args.closed.now in
    let marks = c.loop-at.marks.items in
    let at = c.loop-at.at in
    let one = c.index-scopes-at.result in
    let mark = c.is_marked-mark.result in
    let lower = parents_are_lower c.args.design.now in
    let same = c.as_slice-scopes.ensures in
    let long = ap length same in
    let there : at < length scopes = omega (arith, long, c.loop-at-test.true) in
    let lt : at < length marks = omega (arith, there, c.loop-at.invariant.count) in
    let read : one ≡ get_or scopes at one = c.index-scopes-at.is ∙ ap (λ xs. get_or xs at one) same in
    let list = c.as_slice-scopes.result.now in
    let up = ap (λ (x : Scope). x.parent) (sym c.index-scopes-at.is) ∙ parent_is scopes at one there read in
    let is = mark_of scopes marks c.as_slice-in-loop-at.result.now at (get_or list at one).parent mark c.as_slice-in-loop-at.ensures.value up c.is_marked-mark.ensures in
    marked_more scopes boxes lower marks _ at mark c.loop-at.invariant lt (mark_next scopes boxes lower marks at mark c.loop-at.invariant lt is) (length-set marks at mark) refl
