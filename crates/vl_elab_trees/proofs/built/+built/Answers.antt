use Rattle.std.proofs.Common.{◌∙◌, ap, sym, arith}
use Rattle.vl_elab_trees.specs.Steps.{built_steps, depth}
use Rattle.vl_elab_trees.proofs.StepLaws.{steps_more, depth_more, step_made}
use Rattle.vl_elab_trees.proofs.built.+built.Goals as goal

pub built-built_operand-requires-2 : goal.built-built_operand-requires-2
built-built_operand-requires-2 g t c κs within =
    let falls = c.decreases in
    let h = c.in_ok-first.ensures.first in (omega (arith, falls, h), (within, c.in_ok-first.ensures.operand))

pub built-built-requires : goal.built-built-requires
built-built-requires g t c κs within =
    let e = ap depth c.in-Some.ensures.items ∙ depth_more c.pop.new.self.items c.in-Some.step in
    let m = c.loop-step.invariant.smaller in
    let falls = c.decreases in (omega (arith, falls, e, m), within)

pub built-loop-step-init : goal.built-loop-step-init
built-loop-step-init g t c =
    let m = g.S.Scope.meaning c.args.scope.now in
    let steps = c.in_ok-first.field-0.steps.items in record {
      whole = ap (λ r. built_steps m r steps) c.in_ok-all.ensures ∙ c.in_ok-first.ensures.whole m c.args.values.now;
      smaller = c.in_ok-first.ensures.others;
    }

pub built-loop-step-preserved : goal.built-loop-step-preserved
built-loop-step-preserved g t c =
    let m = g.S.Scope.meaning c.args.scope.now in
    let steps = c.pop.new.self.items in
    let step = c.in-Some.step in
    let e = ap depth c.in-Some.ensures.items ∙ depth_more steps step in
    let d = c.loop-step.invariant.smaller in
    let next = step_made m (c.loop-step.all, c.loop-step.rest.now) step _ _ _ _ _ _ c.inside.ensures c.behind-second.ensures c.part_context-outer.ensures
    c.in_ok-right.ensures c.in_ok-all-2.ensures in record {
      whole = ap (λ r. built_steps m r steps) next ∙ sym (steps_more m (c.loop-step.all, c.loop-step.rest.now) steps step)
          ∙ ap (built_steps m (c.loop-step.all, c.loop-step.rest.now)) (sym c.in-Some.ensures.items) ∙ c.loop-step.invariant.whole;
      smaller = omega (arith, e, d);
    }
