use Rattle.std.proofs.Common.{refl, true, rules}
use Rattle.called_function.specs.Inside.{bytes}
use Rattle.design_core.specs.Formed.{of_kind}
use Rattle.formed_trees.proofs.Bodies.{formed_branch}
use Rattle.called_function.proofs.called.choice_by.Goals as goal

pub returns : goal.returns
returns c vs = formed_branch _ _ _ _ _ _ refl refl refl vs bytes true (of_kind true) (c.requires vs) (search rules) (search rules)
