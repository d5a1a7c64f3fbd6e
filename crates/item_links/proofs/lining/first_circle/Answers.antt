use Rattle.std.proofs.Common.{◌+◌, get_or, sym, ◌∙◌, ap, arith}
use Rattle.std.proofs.lemmas.List.{length-map, get_or-map}
use Rattle.std.proofs.lemmas.List.Sums.{sum_by_more, sum_by_more_le}
use Rattle.design_core.specs.declared.signals.Signal.{Signal}
use Rattle.design_core.specs.Numbers.{first_number}
use Rattle.design_core.specs.Wellformed.{signal_lengths}
use Rattle.item_links.proofs.OrderLaws.{none_more, some_here}
use Rattle.item_links.proofs.lining.first_circle.Goals as goal

pub has_circle-requires : goal.has_circle-requires
has_circle-requires c =
    let lengths = signal_lengths c.args.signals.now in
    let r = c.index-signals-at.result in
    let many = length-map c.args.signals.now (λ (x : Signal). x.length) in
    let here = get_or-map (λ (x : Signal). x.length) c.args.signals.now c.loop-at.at r r.length c.loop-at-test.true in
    let most = sum_by_more_le (λ n. n) lengths c.loop-at.at r.length (omega (arith, many, c.loop-at-test.true)) in
    let start = c.loop-at.invariant.start in
    omega (arith, most, here, start, c.requires.many)

pub returns-then-has_circle : goal.returns-then-has_circle
returns-then-has_circle c =
    let lengths = signal_lengths c.args.signals.now in
    let r = c.index-signals-at.result in
    let start = c.loop-at.start in
    let here = get_or-map (λ (x : Signal). x.length) c.args.signals.now c.loop-at.at r 0 c.loop-at-test.true in
    some_here lengths c.args.drivers.now c.args.circular.now c.loop-at.at start (start + (get_or c.args.signals.now c.loop-at.at r).length) c.loop-at.invariant.start (ap (λ n. start + n) (sym here))
    c.loop-at.invariant.none (c.has_circle.ensures.some c.if-has_circle.true)

pub loop-at-preserved : goal.loop-at-preserved
loop-at-preserved c =
    let lengths = signal_lengths c.args.signals.now in
    let r = c.index-signals-at.result in
    let start = c.loop-at.start in
    let many = length-map c.args.signals.now (λ (x : Signal). x.length) in
    let here = get_or-map (λ (x : Signal). x.length) c.args.signals.now c.loop-at.at r r.length c.loop-at-test.true in
    let zero_here = get_or-map (λ (x : Signal). x.length) c.args.signals.now c.loop-at.at r 0 c.loop-at-test.true in
    let more = sum_by_more (λ n. n) lengths c.loop-at.at r.length (omega (arith, many, c.loop-at-test.true)) in
    record {
      start = ap (λ n. n + (get_or c.args.signals.now c.loop-at.at r).length) c.loop-at.invariant.start ∙ ap (λ n. first_number lengths c.loop-at.at + n) (sym here) ∙ sym more;
      none = none_more lengths c.args.drivers.now c.args.circular.now c.loop-at.at start (start + (get_or c.args.signals.now c.loop-at.at r).length) c.loop-at.invariant.start (ap (λ n. start + n) (sym zero_here))
          c.loop-at.invariant.none (c.has_circle.ensures.none c.if-has_circle.false);
    }
