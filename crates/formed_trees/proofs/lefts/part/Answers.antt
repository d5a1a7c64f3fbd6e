use Rattle.std.proofs.Common.{refl, rules}
use Rattle.formed_trees.proofs.Bodies.{formed_part}
use Rattle.formed_trees.proofs.lefts.part.Goals as goal

pub returns-clause-formed : goal.returns-clause-formed
returns-clause-formed c = formed_part _ _ _ _ refl (search rules)
