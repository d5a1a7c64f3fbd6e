use Rattle.std.proofs.Common.{◌<◌, length, arith}
use Rattle.vl_lex.proofs.Sources.{names_turn}
use Rattle.vl_lex.proofs.preprocessor.source_names.Goals as goal

pub loop-index-preserved : goal.loop-index-preserved
loop-index-preserved c =
    let l : c.loop-index.index < length c.args.files.now = omega (arith, c.loop-index-test.true, c.requires) in
    names_turn _ _ _ _ _ l c.in_ok-push.ensures.ok c.loop-index.invariant
