use Rattle.std.proofs.Common.{ap, ◌∙◌, refl, rules, arith}
use Rattle.design_core.specs.declared.tree.DNode.TheVariants as node
use Rattle.formed_trees.proofs.Built.{formed_mux}
use Rattle.formed_trees.proofs.expressions.mux.Goals as goal

pub returns-clause-formed : goal.returns-clause-formed
returns-clause-formed c = formed_mux _ _ _ _ (ap (λ x. node.Mux x c.in_ok-a.a c.in_ok-b.b) c.in_ok-c.ensures ∙ ap (λ x. node.Mux c.args.c x c.in_ok-b.b) c.in_ok-a.ensures ∙ ap (node.Mux c.args.c c.args.a) c.in_ok-b.ensures) (search rules) refl (omega arith)
