use Rattle.std.proofs.Common.{refl, rules, arith, ◌∙◌}
use Rattle.std.proofs.lemmas.Grind.{common_steps}
use Rattle.formed_trees.proofs.Bodies.{formed_pair}
use Rattle.formed_trees.proofs.lefts.pair.Goals as goal

pub returns-clause-formed : goal.returns-clause-formed
returns-clause-formed c = formed_pair _ _ _ _ _ _ _ refl (c.of.ensures ∙ c.in_ok-parts.ensures) (search rules) (grind (arith, common_steps))
