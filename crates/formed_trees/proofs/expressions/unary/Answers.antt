use Rattle.std.proofs.Common.{ap, rules}
use Rattle.design_core.specs.declared.tree.DNode.TheVariants as node
use Rattle.formed_trees.proofs.Built.{formed_unary}
use Rattle.formed_trees.proofs.expressions.unary.Goals as goal

pub returns-clause-formed : goal.returns-clause-formed
returns-clause-formed c = formed_unary _ _ _ (ap (node.Unary c.args.op) c.in_ok-a.ensures) (search rules) (search rules)
