use Rattle.design_cases.proofs.RowCases as cases
use Rattle.design_cases.proofs.tree_is_read.Goals as goal

pub returns : goal.returns
returns c = cases.tree_is_read
