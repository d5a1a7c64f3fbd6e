use Rattle.std.proofs.Common.{refl, rules}
use Rattle.formed_trees.proofs.Bodies.{formed_case}
use Rattle.formed_trees.proofs.statements.case.Goals as goal

pub returns-clause-formed : goal.returns-clause-formed
returns-clause-formed c = formed_case _ _ _ _ refl c.of.ensures (search rules)
