use Rattle.std.proofs.Common.{◌≡◌, ◌++◌, List, length}
use Rattle.bits_core.specs.declared.names.File.{File}
use Rattle.vl_lex.specs.Sources.{files_of}
use Rattle.vl_lex.specs.Walk.{state_view}
use Rattle.vl_lex.specs.Paused.{opens_view, resumed}
use Rattle.vl_lex.proofs.preprocessor.walk_opens.Given as goal

abbrev pub invariant-loop-open : goal.invariant-loop-open
invariant-loop-open l = (more : List File) → resumed (files_of l.files ++ more) (opens_view l.opens.items) (state_view l.state) ≡ resumed (files_of l.files ++ more) (opens_view l.initial.opens.items) (state_view l.initial.state)

abbrev pub decreases-loop-open : goal.decreases-loop-open
decreases-loop-open l = length l.opens.items
