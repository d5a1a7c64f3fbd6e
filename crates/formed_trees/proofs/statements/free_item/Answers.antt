use Rattle.std.proofs.Common.{refl, ap, ◌∙◌, length}
use Rattle.formed_trees.proofs.Bodies.{formed_item, same_length}
use Rattle.bits_core.proofs.NumberLaws.{length-bits_of}
use Rattle.formed_trees.proofs.statements.free_item.Goals as goal

pub returns-clause-formed : goal.returns-clause-formed
returns-clause-formed c = formed_item _ _ refl (same_length _ _ (ap length c.in_ok-free.ensures ∙ length-bits_of _ _))
