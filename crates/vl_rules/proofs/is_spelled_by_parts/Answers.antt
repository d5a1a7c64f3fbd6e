use Rattle.vl_rules.proofs.Parts.{from_parts}
use Rattle.vl_rules.proofs.is_spelled_by_parts.Goals as goal

pub returns : goal.returns
returns c = from_parts
