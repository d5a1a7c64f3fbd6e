use Rattle.vl_elab_trees.proofs.WholeLaws as whole
use Rattle.vl_elab_trees.proofs.laws.expression_is_formed.Goals as goal

pub returns : goal.returns
returns c = whole.expression_is_formed
