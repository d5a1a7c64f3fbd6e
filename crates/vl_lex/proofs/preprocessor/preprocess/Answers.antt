use Rattle.vl_lex.proofs.Starts.{small_as, small_files}
use Rattle.vl_lex.proofs.preprocessor.preprocess.Goals as goal

pub start_walk-requires-clause-small : goal.start_walk-requires-clause-small
start_walk-requires-clause-small c = small_as _ _ c.in_ok-sources_of.ensures (small_files _ c.args.files.now.small)
