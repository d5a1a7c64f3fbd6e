use Rattle.vl_rules.proofs.Parts.{in_parts}
use Rattle.vl_rules.proofs.spells_its_parts.Goals as goal

pub returns : goal.returns
returns c = in_parts
