use Rattle.std.proofs.Common.{refl, arith}
use Rattle.formed_trees.proofs.Bodies.{formed_write}
use Rattle.formed_trees.proofs.statements.write.Goals as goal

pub returns-clause-formed : goal.returns-clause-formed
returns-clause-formed c = formed_write _ _ _ _ _ refl (omega arith)
