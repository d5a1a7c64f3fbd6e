use Rattle.std.proofs.Common.{◌≡◌, take}
use Rattle.vl_lex.specs.Sources.{files_of}
use Rattle.conncheck.proofs.commands.check.sources_of.Given as goal

abbrev pub invariant-loop-file : goal.invariant-loop-file
invariant-loop-file l = files_of l.sources ≡ take l.file-index l.files
