use Rattle.std.proofs.Common.{◌≡◌, ◌<◌, Bool, [], ◌∷◌, ◌++◌, length, not, arith, ap, ◌∙◌, get_or}
use Rattle.design_core.specs.declared.items.Item.{Item}
use Rattle.design_core.specs.Parts.{is_boxed, scope_of}
use Rattle.blackbox_cut.specs.Boxes.{is_among}
use Rattle.blackbox_cut.proofs.KeptLaws.{goes, item_stands, stays, told_by}
use Rattle.blackbox_cut.proofs.cut.cut_items.Goals as goal
use Rattle.blackbox_cut.proofs.cut.cut_items.Goals.{then-not-index+in_ok-copy+in_ok-push, else-not-index}

pub index-requires : goal.index-requires
index-requires c =
    let items = c.args.design.now.items in
    let at = c.loop-item.item-index in
    let one = c.item-item.result in
    let same = c.as_slice-item-items.ensures in
    let long = ap length same in
    let there : at < length items = omega (arith, long, c.loop-item-test.true) in
    let read : one ≡ get_or items at one = c.item-item.is ∙ ap (λ xs. get_or xs at one) same in
    let stands = item_stands c.args.design.now at one there in
    let scope = ap scope_of read in
    omega (arith, stands, scope, c.scope_of-scope.ensures, c.in_ok-marks.ensures.count, c.in_ok-marks.marks.ok.0)

pub loop-item-preserved : goal.loop-item-preserved
loop-item-preserved c =
    let scopes = c.args.design.now.scopes in
    let boxes = is_among c.args.closed.now in
    let p : Item → Bool = λ i. not (is_boxed scopes boxes (scope_of i)) in
    let items = c.args.design.now.items in
    let at = c.loop-item.item-index in
    let one = c.item-item.result in
    let marks = c.in_ok-marks.marks.items in
    let same = c.as_slice-item-items.ensures in
    let long = ap length same in
    let there : at < length items = omega (arith, long, c.loop-item-test.true) in
    let read : one ≡ get_or items at one = c.item-item.is ∙ ap (λ xs. get_or xs at one) same in
    let stands = item_stands c.args.design.now at one there in
    let scope = ap scope_of read in
    let lt : scope_of one < length scopes = omega (arith, stands, scope) in
    let long_enough : c.scope_of-scope.result < length marks = omega (arith, lt, c.scope_of-scope.ensures, c.in_ok-marks.ensures.count) in
    let told : is_boxed scopes boxes (scope_of one) ≡ c.index.result.now =
    told_by marks (scope_of one) c.scope_of-scope.result c.index.result.now (is_boxed scopes boxes (scope_of one)) c.scope_of-scope.ensures long_enough c.index.ensures
    (c.in_ok-marks.ensures.told (scope_of one) lt) in
    elim c.if-not-index.branch [
      | then-not-index+in_ok-copy+in_ok-push w ↦
          let new : c.if-not-index.all ≡ c.loop-item.all ++ one ∷ [] = w.all-is ∙ w.in_ok-push.ensures.ok ∙ ap (λ (x : Item). c.loop-item.all ++ x ∷ []) w.in_ok-copy.ensures in
          stays p items at one there read c.loop-item.all c.if-not-index.all (ap not (told ∙ w.if-not-index.true)) new c.loop-item.invariant
      | else-not-index w ↦ w.all-is ∙ goes p items at one there read c.loop-item.all (ap not (told ∙ w.if-not-index.false)) c.loop-item.invariant
    ]
