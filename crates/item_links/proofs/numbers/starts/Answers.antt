use Rattle.std.proofs.Common.{◌≡◌, ◌+◌, ◌<◌, length, get_or, sym, ◌∙◌, ap, ◌^◌, arith, rules}
use Rattle.std.proofs.lemmas.List.{length-map, get_or-map, length_push}
use Rattle.std.proofs.lemmas.List.Sums.{sum_by_more, sum_by_more_le}
use Rattle.design_core.specs.declared.signals.Signal.{Signal}
use Rattle.design_core.specs.Numbers.{first_number}
use Rattle.design_core.specs.Wellformed.{signal_lengths}
use Rattle.item_links.proofs.SpanLaws.{more_starts}
use Rattle.item_links.proofs.numbers.starts.Goals as goal

pub overflow_add-next : goal.overflow_add-next
overflow_add-next c =
    let lengths = signal_lengths c.args.signals.now in
    let r = c.index-signals-at.result in
    let many = length-map c.args.signals.now (λ (x : Signal). x.length) in
    let here = get_or-map (λ (x : Signal). x.length) c.args.signals.now c.loop-at.at r r.length c.loop-at-test.true in
    let most = sum_by_more_le (λ n. n) lengths c.loop-at.at r.length (omega (arith, many, c.loop-at-test.true)) in
    let next = c.loop-at.invariant.next in
    let few = c.requires in
    let small : c.loop-at.next + (get_or c.args.signals.now c.loop-at.at r).length < 2 ^ 31 = omega (arith, most, here, next, few) in
    search (rules, small)

pub loop-at-preserved : goal.loop-at-preserved
loop-at-preserved c =
    let lengths = signal_lengths c.args.signals.now in
    let r = c.index-signals-at.result in
    let many = length-map c.args.signals.now (λ (x : Signal). x.length) in
    let here = get_or-map (λ (x : Signal). x.length) c.args.signals.now c.loop-at.at r r.length c.loop-at-test.true in
    let more = sum_by_more (λ n. n) lengths c.loop-at.at r.length (omega (arith, many, c.loop-at-test.true)) in
    let was = c.loop-at.invariant in
    record {
      next = ap (λ n. n + (get_or c.args.signals.now c.loop-at.at r).length) was.next ∙ ap (λ n. first_number lengths c.loop-at.at + n) (sym here) ∙ sym more;
      many = ap length c.in_ok-push.ensures.items ∙ length_push c.loop-at.all.items c.loop-at.next ∙ ap (λ n. n + 1) was.many;
      begins = more_starts lengths c.loop-at.all.items c.push.new.self.items c.loop-at.at c.loop-at.next c.in_ok-push.ensures.items was.many was.next was.begins;
    }

pub returns : goal.returns
returns c =
    let lengths = signal_lengths c.args.signals.now in
    let many = length-map c.args.signals.now (λ (x : Signal). x.length) in
    let end : c.loop-at.at ≡ length c.args.signals.now = omega (arith, c.loop-at-test.false, c.loop-at.auto.at-end) in
    let was = c.loop-at.invariant in
    record {
      many = ap length c.in_ok-push-2.ensures.items ∙ length_push c.loop-at.all.items c.loop-at.next ∙ omega (arith, was.many, end, many);
      begins = λ s l. more_starts lengths c.loop-at.all.items c.push-2.new.self.items c.loop-at.at c.loop-at.next c.in_ok-push-2.ensures.items was.many was.next was.begins s (omega (arith, l, end, many));
    }
