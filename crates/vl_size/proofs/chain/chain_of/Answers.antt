use Rattle.std.proofs.Common.{◌≡◌, ◌∙◌, ap, sym, arith, ◌++◌, ◌∷◌, [], length, length-append, subst}
use Rattle.vl_tree.specs.declared.expressions.Expr.{Expr, size-Expr}
use Rattle.vl_size.specs.declared.chain.Link.{Link}
use Rattle.vl_size.specs.Terms.{term}
use Rattle.vl_size.specs.Chains.{chained, depth}
use Rattle.vl_size.proofs.TermLaws.{term-Binary}
use Rattle.vl_size.proofs.ChainLaws.{chained_more, depth_more, left_smaller, right_smaller}
use Rattle.vl_size.proofs.chain.chain_of.Goals as goal

pub loop-first-preserved : goal.loop-first-preserved
loop-first-preserved c =
    let old = c.loop-first.links.items in
    let op = c.in-Binary.op in
    let left = c.in-Binary.left in
    let right = c.in-Binary.right in
    let sizes = ap size-Expr c.in-Binary.is in
    let one = left_smaller op left right in
    let two = right_smaller op left right in
    let link : Link = record { op = c.binary_operator.result; right = c.get.result } in
    let all : c.push.new.self.items ≡ old ++ link ∷ [] = c.in_ok-push.ensures.items in
    let here = ap size-Expr c.get-first.ensures in
    let there = ap size-Expr c.get.ensures in
    let depths = ap depth all ∙ depth_more old link in
    let longer = ap length all ∙ length-append old (link ∷ []) in
    let within = c.loop-first.invariant.within in
    let others = c.loop-first.invariant.others in record {
      whole = ap (chained (term c.get-first.result.now)) all ∙ chained_more (term c.get-first.result.now) old link
          ∙ ap (λ t. chained t old) (cc (ap term c.in-Binary.is, term-Binary op left right, ap term c.get-first.ensures, ap term c.get.ensures, c.binary_operator.ensures)) ∙ c.loop-first.invariant.whole;
      bare = λ none. absurd (omega (arith, longer, none));
      within = omega (arith, sizes, one, two, here, within, longer);
      others = omega (arith, sizes, one, two, there, depths, within, others);
    }

pub returns-clause-bare : goal.returns-clause-bare
returns-clause-bare c = λ none op l r h. c.in_default.not-Binary op l r (c.loop-first.invariant.bare none ∙ h)
