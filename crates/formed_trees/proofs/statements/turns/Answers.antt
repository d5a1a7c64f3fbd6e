use Rattle.std.proofs.Common.{refl}
use Rattle.formed_trees.proofs.Bodies.{formed_turns}
use Rattle.formed_trees.proofs.statements.turns.Goals as goal

pub returns-clause-formed : goal.returns-clause-formed
returns-clause-formed c = formed_turns _ _ _ refl c.of.ensures
