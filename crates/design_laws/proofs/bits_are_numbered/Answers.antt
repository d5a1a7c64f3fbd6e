use Rattle.design_laws.proofs.NumberLaws.{number_placed, number_once, number_before}
use Rattle.design_laws.proofs.bits_are_numbered.Goals as goal

pub returns : goal.returns
returns c = record { place = number_placed; once = number_once; order = number_before }
