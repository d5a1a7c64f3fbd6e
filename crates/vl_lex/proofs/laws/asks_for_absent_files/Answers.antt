use Rattle.vl_lex.proofs.Absent.{asks_for_absent}
use Rattle.vl_lex.proofs.laws.asks_for_absent_files.Goals as goal

pub returns : goal.returns
returns c = asks_for_absent
