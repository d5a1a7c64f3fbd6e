use Rattle.std.proofs.Common.{◌∙◌, ap, sym, refl, arith}
use denote.Param.Weighed.{most}
use Rattle.vl_tree.specs.declared.expressions.Expr.{size-Expr}
use Rattle.vl_tree.specs.declared.expressions.Select.{size-Select}
use Rattle.vl_names.specs.Outward.{all, is_known}
use Rattle.vl_names.specs.Tables.{table}
use Rattle.vl_size.specs.Chains.{depth}
use Rattle.vl_size.specs.Terms.{term}
use Rattle.vl_size.proofs.ChainLaws.{depth_more}
use Rattle.vl_nets.specs.Nets.{use_term}
use Rattle.vl_nets.proofs.Walks.{walked, walk_chain, walk_more, selects_smaller}
use Rattle.vl_nets.proofs.nets.+use_expr.Goals as goal

pub use_expr-use_operand-requires-2 : goal.use_expr-use_operand-requires-2
use_expr-use_operand-requires-2 t c =
    let falls = c.decreases in
    let h = c.in_ok-first.ensures.first in (omega (arith, falls, h), c.in_ok-first.ensures.operand)

pub use_expr-use_expr-requires : goal.use_expr-use_expr-requires
use_expr-use_expr-requires t c =
    let e = ap depth c.in-Some.ensures.items ∙ depth_more c.pop.new.self.items c.in-Some.link in
    let m = c.loop-link.invariant.smaller in
    let falls = c.decreases in (omega (arith, falls, e, m), tt)

pub use_expr-loop-link-init : goal.use_expr-loop-link-init
use_expr-loop-link-init t c =
    let known = is_known (table c.args.outside.variable.now) (all c.args.outside.scopes.now) c.args.outside.outer in
    let links = c.in_ok-first.field-0.links.items in
    let first = c.in_ok-first.field-0.first.now in record {
      whole = ap (λ s. walked (λ u s. use_term known s u) s links) c.in_ok-all.ensures ∙ sym (walk_chain (λ u s. use_term known s u) (λ op a b s. refl) (term first) (table c.args.before) links)
          ∙ ap (use_term known (table c.args.before)) c.in_ok-first.ensures.whole;
      smaller = c.in_ok-first.ensures.others;
    }

pub use_expr-loop-link-preserved : goal.use_expr-loop-link-preserved
use_expr-loop-link-preserved t c =
    let known = is_known (table c.args.outside.variable.now) (all c.args.outside.scopes.now) c.args.outside.outer in
    let links = c.pop.new.self.items in
    let link = c.in-Some.link in
    let e = ap depth c.in-Some.ensures.items ∙ depth_more links link in
    let d = c.loop-link.invariant.smaller in record {
      whole = ap (λ s. walked (λ u s. use_term known s u) s links) c.in_ok-all-2.ensures ∙ sym (walk_more (λ u s. use_term known s u) (table c.loop-link.all) links link)
          ∙ ap (walked (λ u s. use_term known s u) (table c.loop-link.all)) (sym c.in-Some.ensures.items) ∙ c.loop-link.invariant.whole;
      smaller = omega (arith, e, d);
    }

pub use_operand-use_selects-requires : goal.use_operand-use_selects-requires
use_operand-use_selects-requires t c =
    let whole = ap size-Expr c.in-Name.is in
    let less = selects_smaller c.in-Name.name c.in-Name.selects in
    let same = ap (most size-Select) c.as_slice-selects.ensures in
    let falls = c.decreases in (omega (arith, falls, whole, less, same), tt)
