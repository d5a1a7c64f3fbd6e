use Rattle.vl_rules.proofs.Nearest.{takes_no_else}
use Rattle.vl_rules.proofs.leaves_no_else.Goals as goal

pub returns : goal.returns
returns c = takes_no_else
