use Rattle.tseitin_cnf.proofs.PartLaws.{part_value}
use Rattle.tseitin_cnf.proofs.parts.parts_agree.Goals as goal

pub returns : goal.returns
returns c = part_value
