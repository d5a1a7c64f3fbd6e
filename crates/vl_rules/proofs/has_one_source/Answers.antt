use Rattle.vl_rules.proofs.Modules.{source_one}
use Rattle.vl_rules.proofs.has_one_source.Goals as goal

pub returns : goal.returns
returns c = source_one
