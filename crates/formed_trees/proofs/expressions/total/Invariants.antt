use Rattle.std.proofs.Common.{◌≡◌, sum_by, take}
use Rattle.design_core.specs.declared.tree.DExpr.{DExpr}
use Rattle.formed_trees.proofs.expressions.total.Given as goal

abbrev pub invariant-loop-part : goal.invariant-loop-part
invariant-loop-part l = l.total ≡ sum_by (λ (e : DExpr). e.length) (take l.part-index l.parts)
