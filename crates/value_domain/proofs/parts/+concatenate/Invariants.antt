use Rattle.std.proofs.Common.{length}
use Rattle.value_domain.proofs.parts.+concatenate.Given as goal

abbrev pub decreases-concatenate : goal.decreases-concatenate
decreases-concatenate g l = length l.words.now
