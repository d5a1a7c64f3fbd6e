use Rattle.std.proofs.Common.{ap, ◌∙◌}
use Rattle.formed_trees.proofs.Bodies.{all_two}
use Rattle.formed_trees.specs.Trees.{IsBody}
use Rattle.formed_trees.specs.Makers.{block_stmt}
use Rattle.formed_trees.proofs.statements.both.Goals as goal

pub returns-clause-formed : goal.returns-clause-formed
returns-clause-formed c vs ls inside kinds h k = c.block.ensures.formed vs ls inside kinds (all_two (IsBody vs ls inside kinds) _ _ _ c.in_ok-two.ensures h k)

pub returns-clause-tree : goal.returns-clause-tree
returns-clause-tree c = c.block.ensures.tree ∙ ap block_stmt c.in_ok-two.ensures
