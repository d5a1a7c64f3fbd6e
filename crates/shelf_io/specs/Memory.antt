-- Files in memory.
use Rattle.std.specs.Prelude.{List, [], ◌∷◌, ℕ, Option, Some, None, if◌then◌else◌}
use Rattle.std.specs.Str.{bytes_eq}
use Rattle.bits_core.specs.declared.names.File.{File}

-- the bytes of the first file of this name
abbrev pub file_of : List File → List ℕ → Option (List ℕ)
file_of [] name = None
file_of (f ∷ fs) name = if bytes_eq f.name name then Some f.bytes else file_of fs name
