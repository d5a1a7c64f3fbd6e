use Rattle.std.proofs.Common.{◌∙◌, subst, map, get_or, arith, sym}
use Rattle.std.proofs.lemmas.List.{length-map, take_all}
use Rattle.stmt_exec.specs.State.{assignment}
use Rattle.value_domain.proofs.KeepLaws.{keeps_trans}
use Rattle.design_core.specs.Numbers.{chosen_cells, idle}
use Rattle.item_exec.specs.Passes.{Fits, IsKept, IsStored, cell_in}
use Rattle.item_exec.proofs.ItemPasses as p
use Rattle.item_exec.proofs.OrderPasses as o
use Rattle.item_exec.proofs.storing.store_items.Goals as goal

pub bounds-items-order : goal.bounds-items-order
bounds-items-order g c = (c.requires.fit c.loop-at.at 0 c.loop-at-test.true).0

pub store_item-requires-clause-fits : goal.store_item-requires-clause-fits
store_item-requires-clause-fits g c =
    let m = g.D.Domain.meaning in
    let x = c.index-items-order.result in
    subst (λ ws. Fits ws x) (sym c.loop-at.invariant.wide) (subst (Fits (map m.width c.args.now.now)) (sym c.index-items-order.is) ((c.requires.fit c.loop-at.at 0 c.loop-at-test.true).1 x))

pub loop-at-preserved : goal.loop-at-preserved
loop-at-preserved g c =
    let m = g.D.Domain.meaning in
    let i = c.loop-at.invariant in
    let vs = map m.width c.args.now.now in
    let x = c.index-items-order.result in
    let at = p.chosen_at vs c.args.items.now c.args.order.now c.loop-at.at x c.loop-at-test.true (c.requires.fit c.loop-at.at 0 c.loop-at-test.true).0 c.index-items-order.is in
    let long = length-map c.args.order.now (λ n. get_or (map (cell_in vs) c.args.items.now) n idle) in
    record {
      kept = keeps_trans m c.args.domain.now c.loop-at.domain c.store_item.new.domain i.kept c.store_item.ensures.kept;
      like = c.store_item.ensures.like;
      wide = c.store_item.ensures.wide ∙ i.wide;
      done = λ v. o.stored_more (chosen_cells (map (cell_in vs) c.args.items.now) c.args.order.now) c.loop-at.at (cell_in vs x) (assignment (map (m.reads c.args.domain.now v) c.args.next.now)) _ _ _ _ _ c.requires.ordered
          (omega (arith, long, c.loop-at-test.true)) at (i.done v)
          (subst (λ ws. IsStored (cell_in ws x) (assignment (map (m.reads c.args.domain.now v) c.args.next.now)) (assignment (map (m.reads c.loop-at.domain v) c.loop-at.now)) (assignment (map (m.reads c.loop-at.domain v) c.loop-at.next))
          (assignment (map (m.reads c.store_item.new.domain v) c.store_item.new.now)) (assignment (map (m.reads c.store_item.new.domain v) c.store_item.new.next))) i.wide
          (c.in_ok-store_item.ensures.done v (assignment (map (m.reads c.args.domain.now v) c.args.next.now))));
    }

pub returns-clause-done : goal.returns-clause-done
returns-clause-done g c v =
    let m = g.D.Domain.meaning in
    let vs = map m.width c.args.now.now in
    let cells = chosen_cells (map (cell_in vs) c.args.items.now) c.args.order.now in
    let long = length-map c.args.order.now (λ n. get_or (map (cell_in vs) c.args.items.now) n idle) in
    subst (λ cs. IsKept cs (assignment (map (m.reads c.args.domain.now v) c.args.next.now)) (assignment (map (m.reads c.args.domain.now v) c.args.now.now))
    (assignment (map (m.reads c.loop-at.domain v) c.loop-at.now)) (assignment (map (m.reads c.loop-at.domain v) c.loop-at.next)))
    (take_all c.loop-at.at cells (omega (arith, long, c.loop-at-test.false))) (c.loop-at.invariant.done v)
