use Rattle.std.proofs.Common.{refl, rules}
use Rattle.formed_trees.proofs.Built.{formed_signal}
use Rattle.formed_trees.proofs.expressions.signal.Goals as goal

pub returns-clause-formed : goal.returns-clause-formed
returns-clause-formed c = formed_signal _ _ refl (search rules)
