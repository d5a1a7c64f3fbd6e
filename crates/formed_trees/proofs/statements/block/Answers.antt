use Rattle.std.proofs.Common.{refl}
use Rattle.formed_trees.proofs.Bodies.{formed_block}
use Rattle.formed_trees.proofs.statements.block.Goals as goal

pub returns-clause-formed : goal.returns-clause-formed
returns-clause-formed c = formed_block _ _ _ refl c.of.ensures
