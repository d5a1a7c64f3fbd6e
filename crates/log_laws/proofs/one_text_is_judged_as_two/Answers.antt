use Rattle.log_laws.proofs.JoinedLaws.{judged_as_apart, printed_is_judged}
use Rattle.log_laws.proofs.one_text_is_judged_as_two.Goals as goal

pub returns-clause-apart : goal.returns-clause-apart
returns-clause-apart c = judged_as_apart

pub returns-clause-printed : goal.returns-clause-printed
returns-clause-printed c = printed_is_judged
