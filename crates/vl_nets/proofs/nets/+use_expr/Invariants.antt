use Rattle.std.proofs.Common.{◌≡◌, ◌≤◌, drop, map, vec_len}
use Rattle.vl_tree.specs.declared.expressions.Expr.{size-Expr}
use Rattle.vl_names.specs.Outward.{all, is_known}
use Rattle.vl_names.specs.Tables.{table}
use Rattle.vl_nets.specs.Nets.{use_term, use_terms, use_picks}
use Rattle.vl_size.specs.Chains.{depth}
use Rattle.vl_nets.proofs.Walks.{walked}
use Rattle.vl_size.specs.Terms.{term, terms, picks, pick_term}
use Rattle.vl_nets.proofs.nets.+use_expr.Given as goal

abbrev pub invariant-use_exprs-loop-expr : goal.invariant-use_exprs-loop-expr
invariant-use_exprs-loop-expr l = use_terms (is_known (table l.outside.variable.now) (all l.outside.scopes.now) l.outside.outer) (table l.all) (terms (map term (drop l.expr-index l.exprs))) ≡ use_terms (is_known (table l.outside.variable.now) (all l.outside.scopes.now) l.outside.outer) (table l.fn.before) (terms (map term l.exprs))

abbrev pub invariant-use_selects-loop-select : goal.invariant-use_selects-loop-select
invariant-use_selects-loop-select l = use_picks (is_known (table l.outside.variable.now) (all l.outside.scopes.now) l.outside.outer) (table l.all) (picks (map pick_term (drop l.select-index l.selects))) ≡ use_picks (is_known (table l.outside.variable.now) (all l.outside.scopes.now) l.outside.outer) (table l.fn.before) (picks (map pick_term l.selects))

abbrev pub invariant-use_expr-loop-link : goal.invariant-use_expr-loop-link
invariant-use_expr-loop-link l = record {
  whole : walked (λ t s. use_term (is_known (table l.outside.variable.now) (all l.outside.scopes.now) l.outside.outer) s t) (table l.all) l.links.items ≡ use_term (is_known (table l.outside.variable.now) (all l.outside.scopes.now) l.outside.outer) (table l.fn.before) (term l.expr);
  smaller : depth l.links.items ≤ size-Expr l.expr;
}

abbrev pub decreases-use_expr-loop-link : goal.decreases-use_expr-loop-link
decreases-use_expr-loop-link l = vec_len l.links
