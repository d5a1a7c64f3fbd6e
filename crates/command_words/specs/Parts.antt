-- A text cut at a byte.
use Rattle.std.specs.Prelude.{List, [], ◌∷◌, ◌++◌, ℕ, ◌==◌, Option, Some, None, if◌then◌else◌, option_map}

-- the parts of the rest, where the part so far stands in front of it
abbrev pub parts_from : ℕ → List ℕ → List ℕ → List (List ℕ)
parts_from at held [] = held ∷ []
parts_from at held (b ∷ bs) = if b == at then held ∷ parts_from at [] bs else parts_from at (held ++ b ∷ []) bs

-- the parts between the occurrences of a byte, one more than these
abbrev pub parts : ℕ → List ℕ → List (List ℕ)
parts at text = parts_from at [] text

abbrev pub onto : ℕ → List ℕ × List ℕ → List ℕ × List ℕ
onto b p = (b ∷ p.0, p.1)

-- what stands before the first occurrence of a byte, and what behind it
abbrev pub cut_first : ℕ → List ℕ → Option (List ℕ × List ℕ)
cut_first at [] = None
cut_first at (b ∷ bs) = if b == at then Some ([], bs) else option_map (onto b) (cut_first at bs)

abbrev pub here_unless_later : ℕ → ℕ → List ℕ → Option (List ℕ × List ℕ) → Option (List ℕ × List ℕ)
here_unless_later at b bs None = if b == at then Some ([], bs) else None
here_unless_later at b bs (Some p) = Some (onto b p)

-- the same for the last occurrence
abbrev pub cut_last : ℕ → List ℕ → Option (List ℕ × List ℕ)
cut_last at [] = None
cut_last at (b ∷ bs) = here_unless_later at b bs (cut_last at bs)
