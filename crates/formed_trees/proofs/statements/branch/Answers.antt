use Rattle.std.proofs.Common.{refl}
use Rattle.formed_trees.proofs.Bodies.{formed_branch}
use Rattle.formed_trees.proofs.statements.branch.Goals as goal

pub returns-clause-formed : goal.returns-clause-formed
returns-clause-formed c = formed_branch _ _ _ _ _ _ refl c.in_ok-yes.ensures c.in_ok-no.ensures
