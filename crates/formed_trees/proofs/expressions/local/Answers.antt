use Rattle.std.proofs.Common.{refl, rules}
use Rattle.formed_trees.proofs.Built.{formed_local}
use Rattle.formed_trees.proofs.expressions.local.Goals as goal

pub returns-clause-formed : goal.returns-clause-formed
returns-clause-formed c = formed_local _ _ refl (search rules)
