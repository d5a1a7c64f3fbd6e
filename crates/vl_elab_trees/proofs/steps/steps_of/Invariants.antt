use Rattle.std.proofs.Common.{◌≡◌, ◌≤◌, ◌+◌, List, length}
use Rattle.vl_tree.specs.declared.expressions.Expr.{size-Expr}
use Rattle.vl_size.specs.declared.constant.Const.{Const}
use Rattle.vl_size.specs.Terms.{term}
use Rattle.vl_elab_trees.specs.Built.{built}
use Rattle.vl_elab_trees.specs.Scopes.{Meaning}
use Rattle.vl_elab_trees.specs.Steps.{built_steps, depth}
use Rattle.vl_elab_trees.proofs.steps.steps_of.Given as goal

abbrev pub invariant-loop-first : goal.invariant-loop-first
invariant-loop-first l = record {
  whole : (m : Meaning) (cs : List Const) → built_steps m (built m (term l.first) l.inner l.outer cs) l.steps.items ≡ built m (term l.expr) l.fn.sizings l.fn.context cs;
  bare : length l.steps.items ≡ 0 → l.first ≡ l.expr;
  within : size-Expr l.first + length l.steps.items ≤ size-Expr l.expr;
  others : depth l.steps.items ≤ size-Expr l.expr;
}

abbrev pub decreases-loop-first : goal.decreases-loop-first
decreases-loop-first l = size-Expr l.first
