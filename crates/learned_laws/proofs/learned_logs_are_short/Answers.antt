use Rattle.learned_laws.proofs.ShortLaws.{short}
use Rattle.learned_laws.proofs.learned_logs_are_short.Goals as goal

pub returns : goal.returns
returns c = short
