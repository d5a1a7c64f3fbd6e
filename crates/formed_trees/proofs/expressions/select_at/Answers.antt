use Rattle.std.proofs.Common.{refl, rules}
use Rattle.formed_trees.proofs.Built.{formed_select_at}
use Rattle.formed_trees.proofs.expressions.select_at.Goals as goal

pub returns-clause-formed : goal.returns-clause-formed
returns-clause-formed c = formed_select_at _ _ _ _ _ _ _ refl c.in_ok-base.ensures c.in_ok-index.ensures (search rules) (search rules)
