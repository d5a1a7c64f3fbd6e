use Rattle.formed_trees.proofs.Built.{formed_of}
use Rattle.run_cases.proofs.answers.value_of.Goals as goal

pub eval-requires-clause-formed : goal.eval-requires-clause-formed
eval-requires-clause-formed c = formed_of _ _ _ c.requires
