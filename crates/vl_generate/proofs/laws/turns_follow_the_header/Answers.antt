use Rattle.vl_generate.proofs.TurnLaws.{turns_follow}
use Rattle.vl_generate.proofs.laws.turns_follow_the_header.Goals as goal

pub returns : goal.returns
returns c = turns_follow
