use Rattle.plain_rows.proofs.OneVerdict.{one_verdict}
use Rattle.plain_rows.proofs.laws.verdicts_are_one.Goals as goal

pub returns : goal.returns
returns c = one_verdict
