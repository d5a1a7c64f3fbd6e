use Rattle.std.proofs.Common.{refl, rules}
use Rattle.formed_trees.proofs.Built.{formed_select}
use Rattle.formed_trees.proofs.expressions.select.Goals as goal

pub returns-clause-formed : goal.returns-clause-formed
returns-clause-formed c = formed_select _ _ _ _ refl c.in_ok-base.ensures (search rules)
