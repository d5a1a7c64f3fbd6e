use Rattle.std.proofs.Common.{refl, rules}
use Rattle.formed_trees.proofs.Built.{formed_concat}
use Rattle.formed_trees.proofs.expressions.concat.Goals as goal

pub returns-clause-formed : goal.returns-clause-formed
returns-clause-formed c = formed_concat _ _ _ refl c.of.ensures (search rules) (search rules)
