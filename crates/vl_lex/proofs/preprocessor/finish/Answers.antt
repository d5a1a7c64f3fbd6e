use Rattle.vl_lex.proofs.Needs.{flush_stop}
use Rattle.vl_lex.proofs.preprocessor.finish.Goals as goal

pub stop_of-requires : goal.stop_of-requires
stop_of-requires c = flush_stop _ _ c.in-Err.ensures
