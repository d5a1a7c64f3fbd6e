use Rattle.std.proofs.Common.{◌≡◌, ◌≤◌, drop, map, vec_len}
use Rattle.vl_tree.specs.declared.expressions.Expr.{size-Expr}
use Rattle.vl_size.specs.Chains.{depth}
use Rattle.vl_nets.proofs.Walks.{walked}
use Rattle.vl_names.specs.Names.{listed}
use Rattle.vl_size.specs.Terms.{term, terms, picks, pick_term}
use Rattle.vl_calls.specs.Called.{in_term, in_terms, in_picks}
use Rattle.vl_calls.proofs.calls.+in_expr.Given as goal

abbrev pub invariant-in_exprs-loop-expr : goal.invariant-in_exprs-loop-expr
invariant-in_exprs-loop-expr l = in_terms (listed l.all) (terms (map term (drop l.expr-index l.exprs))) ≡ in_terms (listed l.fn.before) (terms (map term l.exprs))

abbrev pub invariant-in_selects-loop-select : goal.invariant-in_selects-loop-select
invariant-in_selects-loop-select l = in_picks (listed l.all) (picks (map pick_term (drop l.select-index l.selects))) ≡ in_picks (listed l.fn.before) (picks (map pick_term l.selects))

abbrev pub invariant-in_expr-loop-link : goal.invariant-in_expr-loop-link
invariant-in_expr-loop-link l = record {
  whole : walked (λ t xs. in_term xs t) (listed l.all) l.links.items ≡ in_term (listed l.fn.before) (term l.expr);
  smaller : depth l.links.items ≤ size-Expr l.expr;
}

abbrev pub decreases-in_expr-loop-link : goal.decreases-in_expr-loop-link
decreases-in_expr-loop-link l = vec_len l.links
