use Rattle.std.proofs.Common.{◌≡◌, ◌∙◌, ap, sym, arith, ◌++◌, ◌∷◌, []}
use Rattle.vl_tree.specs.declared.expressions.Expr.{size-Expr}
use Rattle.vl_size.specs.Terms.{term}
use Rattle.vl_size.specs.Owns.{own}
use Rattle.vl_size.specs.Chains.{IsNoBinary, depth, chained}
use Rattle.vl_size.proofs.ChainLaws.{own_chain, own_links, own_more, own_link, depth_more}
use Rattle.vl_size.proofs.own.+own.Goals as goal

pub own-own_operand-requires-2 : goal.own-own_operand-requires-2
own-own_operand-requires-2 g t c κs within = let falls = c.decreases in let h = c.in_ok-first.ensures.first in (omega (arith, falls, h), (within, c.in_ok-first.ensures.operand))

pub own-own-requires : goal.own-own-requires
own-own-requires g t c κs within =
    let e = ap depth c.in-Some.ensures.items ∙ depth_more c.pop.new.self.items c.in-Some.link in
    let m = c.loop-link.invariant.smaller in
    let falls = c.decreases in (omega (arith, falls, e, m), within)

pub own-loop-link-init : goal.own-loop-link-init
own-loop-link-init g t c =
    let look = g.S.Sizes.look c.args.names.now in
    let links = c.in_ok-first.field-0.links.items in
    let first = c.in_ok-first.field-0.first.now in record {
      whole = ap (λ f. own_links look f links) c.in_ok-all.ensures ∙ sym (own_chain look (term first) c.args.values.now links) ∙ ap (λ u. own look u c.args.values.now) c.in_ok-first.ensures.whole;
      smaller = c.in_ok-first.ensures.others;
    }

pub own-loop-link-preserved : goal.own-loop-link-preserved
own-loop-link-preserved g t c =
    let look = g.S.Sizes.look c.args.names.now in
    let links = c.pop.new.self.items in
    let link = c.in-Some.link in
    let e = ap depth c.in-Some.ensures.items ∙ depth_more links link in
    let m = c.loop-link.invariant.smaller in record {
      whole = ap (λ f. own_links look f links) (own_link look (c.loop-link.all, c.loop-link.rest.now) link _ _ _ c.in_ok-right.ensures c.in_ok-all-2.ensures)
          ∙ sym (own_more look (c.loop-link.all, c.loop-link.rest.now) links link)
          ∙ ap (own_links look (c.loop-link.all, c.loop-link.rest.now)) (sym c.in-Some.ensures.items) ∙ c.loop-link.invariant.whole;
      smaller = omega (arith, e, m);
    }
