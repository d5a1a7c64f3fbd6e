-- A path as the text of a bit: what stands before its last bracket, and the index behind it.
use Rattle.std.specs.Prelude.{ℕ, ◌+◌, ◌*◌, ◌-◌, Bool, ◌==◌, if◌then◌else◌, List, [], ◌∷◌, ◌++◌}
use Rattle.std.specs.List.{list_any}

-- the text has an opening bracket
abbrev pub has_bracket : List ℕ → Bool
has_bracket t = list_any (λ c. c == 91) t

-- what stands before the last opening bracket, and what stands behind it
abbrev pub before_last : List ℕ → List ℕ
before_last [] = []
before_last (c ∷ cs) = if has_bracket cs then c ∷ before_last cs else []

abbrev pub behind_last : List ℕ → List ℕ
behind_last [] = []
behind_last (c ∷ cs) = if has_bracket cs then behind_last cs else cs

-- what digits are worth, behind a number
abbrev pub worth : ℕ → List ℕ → ℕ
worth n [] = n
worth n (d ∷ ds) = worth (10 * n + (d - 48)) ds

-- the text of a bit: a path, and an index in brackets
abbrev pub in_brackets : List ℕ → List ℕ → List ℕ
in_brackets path index = path ++ 91 ∷ (index ++ 93 ∷ [])
