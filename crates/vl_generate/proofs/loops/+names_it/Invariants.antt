use Rattle.std.proofs.Common.{◌≡◌, ◌≤◌, ◌||◌, drop, map, vec_len}
use Rattle.vl_tree.specs.declared.expressions.Expr.{size-Expr}
use Rattle.vl_size.specs.Chains.{depth}
use Rattle.vl_nets.proofs.Walks.{walked}
use Rattle.vl_size.specs.Terms.{term, terms, picks, pick_term}
use Rattle.vl_generate.specs.Turns.{names_it, some_names_it, picks_name_it}
use Rattle.vl_generate.proofs.loops.+names_it.Given as goal

abbrev pub invariant-some_names_it-loop-expr : goal.invariant-some_names_it-loop-expr
invariant-some_names_it-loop-expr l = some_names_it l.name (terms (map term (drop l.expr-index l.exprs))) ≡ some_names_it l.name (terms (map term l.exprs))

abbrev pub invariant-selects_name_it-loop-select : goal.invariant-selects_name_it-loop-select
invariant-selects_name_it-loop-select l = picks_name_it l.name (picks (map pick_term (drop l.select-index l.selects))) ≡ picks_name_it l.name (picks (map pick_term l.selects))

abbrev pub invariant-names_it-loop-link : goal.invariant-names_it-loop-link
invariant-names_it-loop-link l = record {
  whole : walked (λ t so_far. so_far || names_it l.name t) l.found l.links.items ≡ names_it l.name (term l.expr);
  smaller : depth l.links.items ≤ size-Expr l.expr;
}

abbrev pub decreases-names_it-loop-link : goal.decreases-names_it-loop-link
decreases-names_it-loop-link l = vec_len l.links
