use Rattle.vl_lex.proofs.Gives.{gives_on, gives_end}
use Rattle.vl_lex.proofs.gate.Gate.flush_and_keep.Goals as goal

pub returns-in-Ok : goal.returns-in-Ok
returns-in-Ok c = gives_on _ _ _ _ _ c.in-Ok.ensures c.keep.ensures

pub returns-in-Err : goal.returns-in-Err
returns-in-Err c = gives_end _ _ _ c.in-Err.ensures
