use Rattle.std.proofs.Common.{ℕ, ◌<◌, ◌≤◌, length}
use Rattle.vl_tree.specs.declared.expressions.Expr.{Expr}
use Rattle.vl_grammar.specs.Longest.{Stands}
use Rattle.vl_expr.proofs.parse.seek.Given as goal

abbrev pub invariant-loop-end : goal.invariant-loop-end
invariant-loop-end l = ((t : Expr) (n : ℕ) → l.end < n → Stands t l.tokens l.at n → ⊥) × (l.end ≤ length l.tokens)

abbrev pub decreases-loop-end : goal.decreases-loop-end
decreases-loop-end l = l.end
