use Rattle.plain_rows.proofs.AssignLaws as laws
use Rattle.plain_rows.proofs.laws.drivers_are_assigns.Goals as goal

pub returns : goal.returns
returns c = laws.drivers_are_assigns
