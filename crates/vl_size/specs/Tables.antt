-- The first entry of a name.
use Rattle.std.specs.Prelude.{ℕ, List, [], ◌∷◌, Option, Some, None, if◌then◌else◌}
use Rattle.std.specs.Str.{bytes_eq}
use Rattle.vl_size.specs.declared.table.SizeEntry.{SizeEntry}

-- what a name stands for, if anything
abbrev pub Look : Type 0
Look = List ℕ → Option SizeEntry

abbrev pub first : List ℕ → List SizeEntry → Option SizeEntry
first name [] = None
first name (e ∷ es) = if bytes_eq name e.name then Some e else first name es
