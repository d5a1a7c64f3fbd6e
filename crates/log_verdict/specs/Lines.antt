-- Lines up to a marker line, and the lines behind it.
use Rattle.std.specs.Prelude.{ℕ, List, [], ◌∷◌, if◌then◌else◌}
use Rattle.std.specs.Str.{bytes_eq}

-- the lines before the first one that is the marker, or all of them
abbrev pub upto : List ℕ → List (List ℕ) → List (List ℕ)
upto marker [] = []
upto marker (line ∷ lines) = if bytes_eq line marker then [] else (line ∷ upto marker lines)

-- the lines behind the first one that is the marker; none where there is no such line
abbrev pub past : List ℕ → List (List ℕ) → List (List ℕ)
past marker [] = []
past marker (line ∷ lines) = if bytes_eq line marker then lines else past marker lines
