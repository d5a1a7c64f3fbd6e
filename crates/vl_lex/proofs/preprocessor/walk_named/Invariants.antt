use Rattle.std.proofs.Common.{◌≡◌, ◌++◌, ◌-◌, List}
use Rattle.bits_core.specs.declared.names.File.{File}
use Rattle.vl_lex.specs.Sources.{files_of}
use Rattle.vl_lex.specs.Walk.{state_view, walked_sources}
use Rattle.vl_lex.proofs.preprocessor.walk_named.Given as goal

abbrev pub invariant-loop-index : goal.invariant-loop-index
invariant-loop-index l = (more : List File) → walked_sources (l.named - l.index) (files_of l.files ++ more) l.index (state_view l.state) ≡ walked_sources (l.named - l.next) (files_of l.files ++ more) l.next (state_view l.initial.state)
