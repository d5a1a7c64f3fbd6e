use Rattle.std.proofs.Common.{refl, rules}
use Rattle.formed_trees.proofs.Bodies.{formed_at}
use Rattle.formed_trees.proofs.lefts.at.Goals as goal

pub returns-clause-formed : goal.returns-clause-formed
returns-clause-formed c = formed_at _ _ _ _ _ _ _ refl c.in_ok-index.ensures (search rules) (search rules)
