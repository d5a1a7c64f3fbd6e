use Rattle.std.proofs.Common.{◌≡◌, drop}
use Rattle.vl_lex.specs.Walk.{find_file}
use Rattle.vl_lex.specs.Sources.{files_of}
use Rattle.vl_lex.proofs.state.find_file.Given as goal

abbrev pub invariant-loop-at : goal.invariant-loop-at
invariant-loop-at l = find_file l.at l.name (files_of (drop l.at l.files)) ≡ find_file 0 l.name (files_of l.files)
