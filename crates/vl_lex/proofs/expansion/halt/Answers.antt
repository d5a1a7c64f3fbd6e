use Rattle.vl_lex.specs.Gate.{halt_reason}
use Rattle.vl_lex.proofs.Gives.{flush_on, flush_end}
use Rattle.vl_lex.proofs.expansion.halt.Goals as goal

pub returns-in-Ok : goal.returns-in-Ok
unfolding halt_reason
returns-in-Ok c = flush_on _ _ _ c.in-Ok.ensures

pub returns-in-Err : goal.returns-in-Err
unfolding halt_reason
returns-in-Err c = flush_end _ _ _ c.in-Err.ensures
