use Rattle.vl_rules.proofs.Parts.{broken}
use Rattle.vl_rules.proofs.breaks_the_source.Goals as goal

pub returns : goal.returns
returns c = broken
