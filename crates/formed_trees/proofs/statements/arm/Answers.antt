use Rattle.std.proofs.Common.{refl}
use Rattle.formed_trees.proofs.Bodies.{arm_made}
use Rattle.formed_trees.proofs.statements.arm.Goals as goal

pub returns-clause-formed : goal.returns-clause-formed
returns-clause-formed c = arm_made _ _ _ c.of.ensures refl
