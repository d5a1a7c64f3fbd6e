use Rattle.vl_generate.proofs.FirstLaws.{first_arms}
use Rattle.vl_generate.proofs.laws.first_arms_count.Goals as goal

pub returns : goal.returns
returns c = first_arms
