use Rattle.std.proofs.Common.{ap, rules, arith}
use Rattle.design_core.specs.declared.tree.DNode.TheVariants as node
use Rattle.formed_trees.proofs.Built.{formed_extend}
use Rattle.formed_trees.proofs.expressions.with_sign.Goals as goal

pub returns-clause-formed : goal.returns-clause-formed
returns-clause-formed c = formed_extend _ _ _ (ap (λ x. node.Extend x c.args.signed) c.in_ok-a.ensures) (search rules) (omega arith)
