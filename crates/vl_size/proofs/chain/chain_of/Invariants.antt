use Rattle.std.proofs.Common.{◌≡◌, ◌≤◌, ◌+◌, length}
use Rattle.vl_tree.specs.declared.expressions.Expr.{size-Expr}
use Rattle.vl_size.specs.Terms.{term}
use Rattle.vl_size.specs.Chains.{chained, depth}
use Rattle.vl_size.proofs.chain.chain_of.Given as goal

abbrev pub invariant-loop-first : goal.invariant-loop-first
invariant-loop-first l = record {
  whole : chained (term l.first) l.links.items ≡ term l.expr;
  bare : length l.links.items ≡ 0 → l.first ≡ l.expr;
  within : size-Expr l.first + length l.links.items ≤ size-Expr l.expr;
  others : depth l.links.items ≤ size-Expr l.expr;
}
