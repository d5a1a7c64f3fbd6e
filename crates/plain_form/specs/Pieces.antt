-- A text cut at each occurrence of a byte.
use Rattle.std.specs.Prelude.{List, [], ◌∷◌, ◌++◌, ℕ, ◌==◌, if◌then◌else◌}

-- the pieces of the rest, where the piece so far stands in front of it
abbrev pub cut : ℕ → List ℕ → List ℕ → List (List ℕ)
cut at held [] = held ∷ []
cut at held (b ∷ bs) = if b == at then held ∷ cut at [] bs else cut at (held ++ b ∷ []) bs

-- the parts between the occurrences of a byte, one more than these
abbrev pub pieces : ℕ → List ℕ → List (List ℕ)
pieces at text = cut at [] text
