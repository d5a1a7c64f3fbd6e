use Rattle.std.proofs.Common.{ap, rules, arith}
use Rattle.std.proofs.lemmas.Grind.{common_steps}
use Rattle.design_core.specs.declared.tree.DNode.TheVariants as node
use Rattle.formed_trees.proofs.Built.{formed_repeat}
use Rattle.formed_trees.proofs.expressions.repeat.Goals as goal

pub returns-clause-formed : goal.returns-clause-formed
returns-clause-formed c = formed_repeat _ _ _ (ap (node.Repeat c.args.count) c.in_ok-part.ensures) (search rules) (grind (arith, common_steps))
