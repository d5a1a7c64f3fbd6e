use Rattle.std.proofs.Common.{◌∙◌, ap, sym, refl, arith}
use Rattle.vl_names.specs.Names.{listed}
use Rattle.vl_size.specs.Chains.{depth}
use Rattle.vl_size.specs.Terms.{term}
use Rattle.vl_size.proofs.ChainLaws.{depth_more}
use Rattle.vl_calls.specs.Called.{in_term}
use Rattle.vl_nets.proofs.Walks.{walked, walk_chain, walk_more}
use Rattle.vl_calls.proofs.calls.+in_expr.Goals as goal

pub in_expr-in_operand-requires-2 : goal.in_expr-in_operand-requires-2
in_expr-in_operand-requires-2 t c =
    let falls = c.decreases in
    let h = c.in_ok-first.ensures.first in (omega (arith, falls, h), c.in_ok-first.ensures.operand)

pub in_expr-in_expr-requires : goal.in_expr-in_expr-requires
in_expr-in_expr-requires t c =
    let e = ap depth c.in-Some.ensures.items ∙ depth_more c.pop.new.self.items c.in-Some.link in
    let m = c.loop-link.invariant.smaller in
    let falls = c.decreases in (omega (arith, falls, e, m), tt)

pub in_expr-loop-link-init : goal.in_expr-loop-link-init
in_expr-loop-link-init t c =
    let links = c.in_ok-first.field-0.links.items in
    let first = c.in_ok-first.field-0.first.now in record {
      whole = ap (λ s. walked (λ u xs. in_term xs u) s links) c.in_ok-all.ensures ∙ sym (walk_chain (λ u xs. in_term xs u) (λ op a b s. refl) (term first) (listed c.args.before) links)
          ∙ ap (in_term (listed c.args.before)) c.in_ok-first.ensures.whole;
      smaller = c.in_ok-first.ensures.others;
    }

pub in_expr-loop-link-preserved : goal.in_expr-loop-link-preserved
in_expr-loop-link-preserved t c =
    let links = c.pop.new.self.items in
    let link = c.in-Some.link in
    let e = ap depth c.in-Some.ensures.items ∙ depth_more links link in
    let d = c.loop-link.invariant.smaller in record {
      whole = ap (λ s. walked (λ u xs. in_term xs u) s links) c.in_ok-all-2.ensures ∙ sym (walk_more (λ u xs. in_term xs u) (listed c.loop-link.all) links link)
          ∙ ap (walked (λ u xs. in_term xs u) (listed c.loop-link.all)) (sym c.in-Some.ensures.items) ∙ c.loop-link.invariant.whole;
      smaller = omega (arith, e, d);
    }
