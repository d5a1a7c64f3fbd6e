use Rattle.bits_core.proofs.NumberLaws.{length-bits_of}
use Rattle.std.proofs.Common.{ap, ◌∙◌, length, refl, rules}
use Rattle.formed_trees.proofs.Built.{formed_constant}
use Rattle.formed_trees.proofs.expressions.constant.Goals as goal

pub returns-clause-formed : goal.returns-clause-formed
returns-clause-formed c = formed_constant _ _ refl (search rules) (ap length c.in_ok-bits.ensures ∙ length-bits_of _ _)
