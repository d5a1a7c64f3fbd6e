use Rattle.std.proofs.Common.{◌≡◌, ◌≤◌, map, drop, vec_len}
use Rattle.vl_tree.specs.declared.expressions.Expr.{size-Expr}
use Rattle.vl_size.specs.Chains.{depth}
use Rattle.vl_size.specs.Terms.{term, terms}
use Rattle.vl_elab_trees.specs.Calls.{calls_fit, all_calls_fit}
use Rattle.vl_elab_trees.proofs.CallLaws.{links_fit}
use Rattle.vl_elab_trees.proofs.calls.+calls_fit.Given as goal

abbrev pub invariant-all_calls_fit-loop-part : goal.invariant-all_calls_fit-loop-part
invariant-all_calls_fit-loop-part g l = all_calls_fit (g.S.Scope.meaning l.scope).known.look (terms (map term (drop l.part-index l.parts))) ≡ all_calls_fit (g.S.Scope.meaning l.scope).known.look (terms (map term l.parts))

abbrev pub invariant-calls_fit-loop-link : goal.invariant-calls_fit-loop-link
invariant-calls_fit-loop-link g l = record {
  whole : links_fit (g.S.Scope.meaning l.scope).known.look l.all l.links.items ≡ calls_fit (g.S.Scope.meaning l.scope).known.look (term l.expr);
  smaller : depth l.links.items ≤ size-Expr l.expr;
}

abbrev pub decreases-calls_fit-loop-link : goal.decreases-calls_fit-loop-link
decreases-calls_fit-loop-link g l = vec_len l.links
