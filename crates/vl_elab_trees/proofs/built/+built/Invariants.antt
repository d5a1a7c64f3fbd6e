use Rattle.std.proofs.Common.{◌≡◌, ◌≤◌, map, drop, vec_len}
use Rattle.vl_tree.specs.declared.expressions.Expr.{size-Expr}
use Rattle.vl_size.specs.Terms.{term, terms}
use Rattle.vl_elab_trees.specs.Built.{built, builts, with_front}
use Rattle.vl_elab_trees.specs.Steps.{built_steps, depth}
use Rattle.vl_elab_trees.proofs.built.+built.Given as goal

abbrev pub invariant-builts-loop-part : goal.invariant-builts-loop-part
invariant-builts-loop-part g l = with_front l.all (builts (g.S.Scope.meaning l.scope) (terms (map term (drop l.part-index l.parts))) l.ahead l.rest) ≡ builts (g.S.Scope.meaning l.scope) (terms (map term l.parts)) l.sizings l.values

abbrev pub invariant-built-loop-step : goal.invariant-built-loop-step
invariant-built-loop-step g l = record {
  whole : built_steps (g.S.Scope.meaning l.scope) (l.all, l.rest) l.steps.items ≡ built (g.S.Scope.meaning l.scope) (term l.expr) l.sizings l.fn.context l.values;
  smaller : depth l.steps.items ≤ size-Expr l.expr;
}

abbrev pub decreases-built-loop-step : goal.decreases-built-loop-step
decreases-built-loop-step g l = vec_len l.steps
