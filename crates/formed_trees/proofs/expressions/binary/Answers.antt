use Rattle.std.proofs.Common.{ap, ◌∙◌, rules}
use Rattle.design_core.specs.declared.tree.DNode.TheVariants as node
use Rattle.formed_trees.proofs.Built.{formed_binary}
use Rattle.formed_trees.proofs.expressions.binary.Goals as goal

pub returns-clause-formed : goal.returns-clause-formed
returns-clause-formed c = formed_binary _ _ _ _ (ap (λ x. node.Binary c.args.op x c.in_ok-b.b) c.in_ok-a.ensures ∙ ap (node.Binary c.args.op c.args.a) c.in_ok-b.ensures) (search rules) (search rules)
