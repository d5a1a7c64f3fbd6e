-- The files of a walk, in the keeping of its caller.
use Rattle.std.specs.Prelude.{ℕ, ◌<◌, ◌≤◌, ◌^◌, List, map, length}
use Rattle.bits_core.specs.declared.names.File.{File}
use Rattle.vl_lex.specs.declared.source.Source.{Source}
use Rattle.vl_lex.specs.Walk.{bytes_of}

abbrev pub file_of : Source → File
file_of s = record { name = s.name.now; bytes = s.bytes.now }

abbrev pub files_of : List Source → List File
files_of sources = map file_of sources

-- no file is longer than a file may be
abbrev pub AreSmall : List File → Type 0
AreSmall files = (at : ℕ) → at < length files → length (bytes_of at files) ≤ 2 ^ 24
