use Rattle.std.proofs.Common.{refl, rules}
use Rattle.formed_trees.proofs.Bodies.{formed_whole}
use Rattle.formed_trees.proofs.lefts.whole.Goals as goal

pub returns-clause-formed : goal.returns-clause-formed
returns-clause-formed c = formed_whole _ _ _ refl (search rules)
