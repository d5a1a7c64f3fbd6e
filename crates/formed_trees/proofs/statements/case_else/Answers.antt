use Rattle.std.proofs.Common.{refl, rules}
use Rattle.formed_trees.proofs.Bodies.{formed_case_else}
use Rattle.formed_trees.proofs.statements.case_else.Goals as goal

pub returns-clause-formed : goal.returns-clause-formed
returns-clause-formed c = formed_case_else _ _ _ _ _ _ refl c.of.ensures c.in_ok-rest.ensures (search rules)
