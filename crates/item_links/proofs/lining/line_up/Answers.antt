use Rattle.std.proofs.Common.{◌≡◌, true, false, sym, ◌∙◌, ap, subst}
use Rattle.design_core.specs.declared.place.BitRef.{BitRef}
use Rattle.design_core.specs.Numbers.{is_bit, number}
use Rattle.design_core.specs.Wellformed.{signal_lengths}
use Rattle.item_order.specs.Circles.{graph_of}
use Rattle.item_order.specs.Progress.{items_in}
use Rattle.item_links.specs.Noted.{IsFirstSignal}
use Rattle.item_links.specs.Orders.{IsOnCircle, is_turned}
use Rattle.item_links.proofs.OrderLaws.{Turned, first_is, is_order, none_found, same_turned}
use Rattle.item_links.proofs.lining.line_up.Goals as goal

pub returns-in-Some-clause-circle : goal.returns-in-Some-clause-circle
returns-in-Some-clause-circle c = λ s e cells is many.
    let lengths = signal_lengths c.args.signals.now in
    let links = c.args.links.now in
    let arranged = c.in_ok-arranged.arranged in
    let q : c.in-Some.signal ≡ s = cc in
    subst (IsFirstSignal (IsOnCircle cells)) q (first_is lengths cells (graph_of links) is (items_in links) arranged.order.items arranged.circular.items c.in_ok-arranged.ensures many c.in-Some.signal
    (same_turned lengths c.as_slice.result.now links.drivers.items c.as_slice-2.result.now arranged.circular.items c.in-Some.signal c.as_slice.ensures.value c.as_slice-2.ensures.value c.in-Some.ensures))

pub returns-clause-order : goal.returns-clause-order
returns-clause-order c = λ cells is many.
    let lengths = signal_lengths c.args.signals.now in
    let links = c.args.links.now in
    let arranged = c.in_ok-arranged.arranged in
    is_order lengths cells (graph_of links) is (items_in links) arranged.order.items arranged.circular.items c.in_ok-arranged.ensures many
    (λ b h. sym (ap (λ ds. is_turned ds arranged.circular.items (number lengths b)) c.as_slice.ensures.value)
    ∙ sym (ap (λ ts. is_turned c.as_slice.result.now ts (number lengths b)) c.as_slice-2.ensures.value)
    ∙ none_found ((a : BitRef) → is_bit lengths a ≡ true → is_turned c.as_slice.result.now c.as_slice-2.result.now (number lengths a) ≡ false)
    (IsFirstSignal (Turned lengths c.as_slice.result.now c.as_slice-2.result.now)) c.first_circle.result c.first_circle.ensures c.in_default.not-Some b h)
