use Rattle.std.proofs.Common.{◌∙◌, ap, sym, arith}
use Rattle.vl_const.specs.Operations.{worth_steps, depth}
use Rattle.vl_const.proofs.OperationLaws.{steps_more, depth_more, operation_made}
use Rattle.vl_const.proofs.worth.+worth.Goals as goal

pub worth-worth_operand-requires-2 : goal.worth-worth_operand-requires-2
worth-worth_operand-requires-2 g t c κs within =
    let falls = c.decreases in
    let h = c.in_ok-first.ensures.first in (omega (arith, falls, h), (within, c.in_ok-first.ensures.operand))

pub worth-worth-requires : goal.worth-worth-requires
worth-worth-requires g t c κs within =
    let e = ap depth c.in-Some.ensures.items ∙ depth_more c.pop.new.self.items c.in-Some.step in
    let m = c.loop-step.invariant.smaller in
    let falls = c.decreases in (omega (arith, falls, e, m), within)

pub worth-loop-step-init : goal.worth-loop-step-init
worth-loop-step-init g t c =
    let m = g.S.Constants.meaning c.args.scope.now in
    let steps = c.in_ok-first.field-0.steps.items in record {
      whole = ap (λ r. worth_steps m r steps) c.in_ok-all.ensures ∙ c.in_ok-first.ensures.whole m (c.args.values.0.now, c.args.values.1.now);
      smaller = c.in_ok-first.ensures.others;
    }

pub worth-loop-step-preserved : goal.worth-loop-step-preserved
worth-loop-step-preserved g t c =
    let m = g.S.Constants.meaning c.args.scope.now in
    let steps = c.pop.new.self.items in
    let step = c.in-Some.step in
    let e = ap depth c.in-Some.ensures.items ∙ depth_more steps step in
    let d = c.loop-step.invariant.smaller in
    let next = operation_made m (c.loop-step.all, (c.loop-step.rest.0.now, c.loop-step.rest.1.now)) step _ _ _ _ _ _ c.inside.ensures c.behind-second.ensures c.part_context-outer.ensures
    c.in_ok-right.ensures c.in_ok-all-2.ensures in record {
      whole = ap (λ r. worth_steps m r steps) next ∙ sym (steps_more m (c.loop-step.all, (c.loop-step.rest.0.now, c.loop-step.rest.1.now)) steps step)
          ∙ ap (worth_steps m (c.loop-step.all, (c.loop-step.rest.0.now, c.loop-step.rest.1.now))) (sym c.in-Some.ensures.items) ∙ c.loop-step.invariant.whole;
      smaller = omega (arith, e, d);
    }
