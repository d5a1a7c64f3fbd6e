use Rattle.std.proofs.Common.{◌≡◌, map}
use Rattle.vl_lex.specs.Sources.{files_of}
use Rattle.vl_lex.specs.Walk.{named_sources}
use Rattle.vl_lex.proofs.preprocessor.source_names.Given as goal

abbrev pub invariant-loop-index : goal.invariant-loop-index
invariant-loop-index l = map (λ n. n.now) l.names ≡ named_sources (files_of l.files) l.index
