use Rattle.std.proofs.Common.{◌∙◌, ap, sym, arith}
use Rattle.vl_size.specs.Chains.{depth}
use Rattle.vl_size.specs.Terms.{term}
use Rattle.vl_size.proofs.ChainLaws.{depth_more}
use Rattle.vl_const.specs.Counted.{counts}
use Rattle.vl_const.proofs.OperationLaws.{counts_links, counts_chain, counts_more}
use Rattle.vl_const.proofs.counting.+counts.Goals as goal

pub counts_behind-counts_operand-requires-2 : goal.counts_behind-counts_operand-requires-2
counts_behind-counts_operand-requires-2 g t c κs within =
    let falls = c.decreases in
    let h = c.in_ok-first.ensures.first in (omega (arith, falls, h), (within, c.in_ok-first.ensures.operand))

pub counts_behind-counts_behind-requires : goal.counts_behind-counts_behind-requires
counts_behind-counts_behind-requires g t c κs within =
    let e = ap depth c.in-Some.ensures.items ∙ depth_more c.pop.new.self.items c.in-Some.link in
    let m = c.loop-link.invariant.smaller in
    let falls = c.decreases in (omega (arith, falls, e, m), within)

pub counts_behind-loop-link-init : goal.counts_behind-loop-link-init
counts_behind-loop-link-init g t c =
    let m = g.S.Constants.meaning c.args.scope.now in
    let links = c.in_ok-first.field-0.links.items in
    let first = c.in_ok-first.field-0.first.now in record {
      whole = ap (λ f. counts_links m f links) c.in_ok-all.ensures ∙ sym (counts_chain m (term first) c.args.found links) ∙ ap (λ u. counts m u c.args.found) c.in_ok-first.ensures.whole;
      smaller = c.in_ok-first.ensures.others;
    }

pub counts_behind-loop-link-preserved : goal.counts_behind-loop-link-preserved
counts_behind-loop-link-preserved g t c =
    let m = g.S.Constants.meaning c.args.scope.now in
    let links = c.pop.new.self.items in
    let link = c.in-Some.link in
    let e = ap depth c.in-Some.ensures.items ∙ depth_more links link in
    let d = c.loop-link.invariant.smaller in record {
      whole = ap (λ f. counts_links m f links) c.in_ok-all-2.ensures ∙ sym (counts_more m c.loop-link.all links link)
          ∙ ap (counts_links m c.loop-link.all) (sym c.in-Some.ensures.items) ∙ c.loop-link.invariant.whole;
      smaller = omega (arith, e, d);
    }
