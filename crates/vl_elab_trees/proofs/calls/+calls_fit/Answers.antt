use Rattle.std.proofs.Common.{◌&&◌, ◌∙◌, ap, sym, arith}
use Rattle.vl_size.specs.Chains.{depth}
use Rattle.vl_size.specs.Terms.{term}
use Rattle.vl_size.proofs.ChainLaws.{depth_more}
use Rattle.vl_elab_trees.specs.Calls.{calls_fit}
use Rattle.vl_elab_trees.proofs.CallLaws.{links_fit, chain_fits, links_more}
use Rattle.vl_elab_trees.proofs.calls.+calls_fit.Goals as goal

pub calls_fit-operand_fits-requires-2 : goal.calls_fit-operand_fits-requires-2
calls_fit-operand_fits-requires-2 g t c κs within =
    let falls = c.decreases in
    let h = c.in_ok-first.ensures.first in (omega (arith, falls, h), (within, c.in_ok-first.ensures.operand))

pub calls_fit-calls_fit-requires : goal.calls_fit-calls_fit-requires
calls_fit-calls_fit-requires g t c κs within =
    let e = ap depth c.in-Some.ensures.items ∙ depth_more c.pop.new.self.items c.in-Some.link in
    let m = c.loop-link.invariant.smaller in
    let falls = c.decreases in (omega (arith, falls, e, m), within)

pub calls_fit-loop-link-init : goal.calls_fit-loop-link-init
calls_fit-loop-link-init g t c =
    let look = (g.S.Scope.meaning c.args.scope.now).known.look in
    let links = c.in_ok-first.field-0.links.items in
    let first = c.in_ok-first.field-0.first.now in record {
      whole = ap (λ b. links_fit look b links) c.in_ok-all.ensures ∙ sym (chain_fits look (term first) links) ∙ ap (calls_fit look) c.in_ok-first.ensures.whole;
      smaller = c.in_ok-first.ensures.others;
    }

pub calls_fit-loop-link-preserved : goal.calls_fit-loop-link-preserved
calls_fit-loop-link-preserved g t c =
    let look = (g.S.Scope.meaning c.args.scope.now).known.look in
    let links = c.pop.new.self.items in
    let link = c.in-Some.link in
    let e = ap depth c.in-Some.ensures.items ∙ depth_more links link in
    let d = c.loop-link.invariant.smaller in record {
      whole = ap (λ b. links_fit look b links) (c.both-all.ensures ∙ ap (λ r. c.loop-link.all && r) c.in_ok-right.ensures) ∙ sym (links_more look c.loop-link.all links link)
          ∙ ap (links_fit look c.loop-link.all) (sym c.in-Some.ensures.items) ∙ c.loop-link.invariant.whole;
      smaller = omega (arith, e, d);
    }
