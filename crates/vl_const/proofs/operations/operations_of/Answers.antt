use Rattle.std.proofs.Common.{◌≡◌, ◌∙◌, ap, arith, ◌++◌, ◌∷◌, [], length, length-append}
use Rattle.vl_tree.specs.declared.expressions.Expr.{size-Expr}
use Rattle.vl_size.specs.Terms.{term, binary}
use Rattle.vl_size.proofs.TermLaws.{term-Binary}
use Rattle.vl_size.proofs.ChainLaws.{left_smaller, right_smaller}
use Rattle.vl_const.specs.declared.operations.Operation.{Operation}
use Rattle.vl_const.specs.Operations.{worth_steps, depth}
use Rattle.vl_const.specs.Worths.{worth}
use Rattle.vl_const.proofs.OperationLaws.{steps_more, depth_more, opened}
use Rattle.vl_const.proofs.operations.operations_of.Goals as goal

pub loop-first-preserved : goal.loop-first-preserved
loop-first-preserved c =
    let old = c.loop-first.steps.items in
    let op = c.in-Binary.op in
    let left = c.in-Binary.left in
    let right = c.in-Binary.right in
    let sizes = ap size-Expr c.in-Binary.is in
    let one = left_smaller op left right in
    let two = right_smaller op left right in
    let link : Operation = record { op = c.binary_operator.result; right = c.get.result; sizings = c.loop-first.inner; context = c.loop-first.outer } in
    let all : c.push.new.self.items ≡ old ++ link ∷ [] = c.in_ok-push.ensures.items in
    let here = ap size-Expr c.get-first.ensures in
    let there = ap size-Expr c.get.ensures in
    let depths = ap depth all ∙ depth_more old link in
    let longer = ap length all ∙ length-append old (link ∷ []) in
    let within = c.loop-first.invariant.within in
    let others = c.loop-first.invariant.others in
    let whole_term : term c.loop-first.first.now ≡ binary link.op (term c.get-first.result.now) (term link.right.now) =
    cc (ap term c.in-Binary.is, term-Binary op left right, ap term c.get-first.ensures, ap term c.get.ensures, c.binary_operator.ensures) in record {
      whole = λ m cs. ap (worth_steps m (worth m (term c.get-first.result.now) c.inside-parts.result.now c.part_context-outer.result cs)) all
          ∙ steps_more m (worth m (term c.get-first.result.now) c.inside-parts.result.now c.part_context-outer.result cs) old link
          ∙ ap (λ r. worth_steps m r old) (opened m cs link (term c.loop-first.first.now) (term c.get-first.result.now) c.inside-parts.result.now c.part_context-outer.result
          whole_term c.inside-parts.ensures c.part_context-outer.ensures)
          ∙ c.loop-first.invariant.whole m cs;
      bare = λ none. absurd (omega (arith, longer, none));
      within = omega (arith, sizes, one, two, here, within, longer);
      others = omega (arith, sizes, one, two, there, depths, within, others);
    }

pub returns-clause-bare : goal.returns-clause-bare
returns-clause-bare c = λ none op l r h. c.in_default.not-Binary op l r (c.loop-first.invariant.bare none ∙ h)

pub returns-clause-whole : goal.returns-clause-whole
returns-clause-whole c = c.loop-first.invariant.whole
