use Rattle.std.proofs.Common.{refl}
use Rattle.formed_trees.proofs.Bodies.{formed_item}
use Rattle.formed_trees.proofs.statements.item.Goals as goal

pub returns-clause-formed : goal.returns-clause-formed
returns-clause-formed c = formed_item _ _ refl refl
