use Rattle.std.proofs.Common.{◌≡◌, ◌≤◌, ◌+◌, length}
use Rattle.vl_tree.specs.declared.expressions.Expr.{size-Expr}
use Rattle.vl_size.specs.Terms.{term}
use Rattle.vl_const.specs.Scopes.{Meaning}
use Rattle.vl_const.specs.Values.{Values}
use Rattle.vl_const.specs.Worths.{worth}
use Rattle.vl_const.specs.Operations.{worth_steps, depth}
use Rattle.vl_const.proofs.operations.operations_of.Given as goal

abbrev pub invariant-loop-first : goal.invariant-loop-first
invariant-loop-first l = record {
  whole : (m : Meaning) (cs : Values) → worth_steps m (worth m (term l.first) l.inner l.outer cs) l.steps.items ≡ worth m (term l.expr) l.fn.sizings l.fn.context cs;
  bare : length l.steps.items ≡ 0 → l.first ≡ l.expr;
  within : size-Expr l.first + length l.steps.items ≤ size-Expr l.expr;
  others : depth l.steps.items ≤ size-Expr l.expr;
}
