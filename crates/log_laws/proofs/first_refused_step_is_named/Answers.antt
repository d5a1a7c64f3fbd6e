use Rattle.log_laws.proofs.RefusedLaws.{rejected_at_the_first}
use Rattle.log_laws.proofs.first_refused_step_is_named.Goals as goal

pub returns : goal.returns
returns c = rejected_at_the_first
