use Rattle.std.proofs.Common.{◌≡◌, ◌∙◌, ap, sym, arith, ◌++◌, ◌∷◌, [], length, length-append}
use Rattle.vl_tree.specs.declared.expressions.Expr.{size-Expr}
use Rattle.vl_size.specs.Operators.{binary_operator}
use Rattle.vl_size.specs.Terms.{term, binary}
use Rattle.vl_size.proofs.TermLaws.{term-Binary}
use Rattle.vl_size.proofs.ChainLaws.{left_smaller, right_smaller}
use Rattle.vl_elab_trees.specs.declared.steps.Step.{Step}
use Rattle.vl_elab_trees.specs.Built.{built}
use Rattle.vl_elab_trees.specs.Steps.{built_steps, depth}
use Rattle.vl_elab_trees.proofs.StepLaws.{steps_more, depth_more, opened}
use Rattle.vl_elab_trees.proofs.steps.steps_of.Goals as goal

pub loop-first-preserved : goal.loop-first-preserved
loop-first-preserved c =
    let old = c.loop-first.steps.items in
    let op = c.in-Binary.op in
    let left = c.in-Binary.left in
    let right = c.in-Binary.right in
    let sizes = ap size-Expr c.in-Binary.is in
    let one = left_smaller op left right in
    let two = right_smaller op left right in
    let step : Step = record { form = c.in-Some.form; right = c.get.result; sizings = c.loop-first.inner; context = c.loop-first.outer } in
    let all : c.push.new.self.items ≡ old ++ step ∷ [] = c.in_ok-push.ensures.items in
    let here = ap size-Expr c.get-first.ensures in
    let there = ap size-Expr c.get.ensures in
    let depths = ap depth all ∙ depth_more old step in
    let longer = ap length all ∙ length-append old (step ∷ []) in
    let within = c.loop-first.invariant.within in
    let others = c.loop-first.invariant.others in
    let whole_term : term c.loop-first.first.now ≡ binary c.binary_operator.result (term c.get-first.result.now) (term step.right.now) =
    cc (ap term c.in-Binary.is, term-Binary op left right, ap term c.get-first.ensures, ap term c.get.ensures, c.binary_operator.ensures) in record {
      whole = λ m cs. ap (built_steps m (built m (term c.get-first.result.now) c.inside-parts.result.now c.part_context-outer.result cs)) all
          ∙ steps_more m (built m (term c.get-first.result.now) c.inside-parts.result.now c.part_context-outer.result cs) old step
          ∙ ap (λ r. built_steps m r old) (opened m cs step c.binary_operator.result (term c.loop-first.first.now) (term c.get-first.result.now) c.inside-parts.result.now c.part_context-outer.result
          whole_term (sym c.form_of.ensures ∙ c.in-Some.is) c.inside-parts.ensures c.part_context-outer.ensures)
          ∙ c.loop-first.invariant.whole m cs;
      bare = λ none. absurd (omega (arith, longer, none));
      within = omega (arith, sizes, one, two, here, within, longer);
      others = omega (arith, sizes, one, two, there, depths, within, others);
    }
