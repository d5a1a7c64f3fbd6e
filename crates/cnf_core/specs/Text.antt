-- Texts as lines, and lines as words.
use Rattle.std.specs.Prelude.{ℕ, ◌+◌, Bool, false, cond, eqb, ◌||◌, List, [], ◌∷◌, ◌++◌, length}

abbrev pub is_newline : ℕ → Bool
is_newline b = eqb b 10

-- a space, a tab or a carriage return
abbrev pub is_blank : ℕ → Bool
is_blank b = eqb b 32 || eqb b 9 || eqb b 13

abbrev pub onto_first : ℕ → List (List ℕ) → List (List ℕ)
onto_first b [] = (b ∷ []) ∷ []
onto_first b (part ∷ parts) = (b ∷ part) ∷ parts

-- the parts of a text that bytes of a kind end; one such byte at its end begins no further part
abbrev pub parts : (ℕ → Bool) → List ℕ → List (List ℕ)
parts ends [] = []
parts ends (b ∷ bs) = cond (ends b) ([] ∷ parts ends bs) (onto_first b (parts ends bs))

abbrev pub text_lines : List ℕ → List (List ℕ)
text_lines text = parts is_newline text

abbrev pub onto_full : List ℕ → List (List ℕ) → List (List ℕ)
onto_full [] ws = ws
onto_full (b ∷ bs) ws = (b ∷ bs) ∷ ws

-- the parts with bytes in them
abbrev pub full_parts : List (List ℕ) → List (List ℕ)
full_parts [] = []
full_parts (p ∷ ps) = onto_full p (full_parts ps)

-- the words of a line, which blanks part
abbrev pub words_of : List ℕ → List (List ℕ)
words_of line = full_parts (parts is_blank line)

-- a line that begins with `c`
abbrev pub is_comment : List ℕ → Bool
is_comment [] = false
is_comment (b ∷ bs) = eqb b 99

-- a word and the number of its line
pub record Word : Type 0 where
  pub line : ℕ
  pub bytes : List ℕ

abbrev pub marked : ℕ → List (List ℕ) → List Word
marked n [] = []
marked n (w ∷ ws) = record { line = n; bytes = w } ∷ marked n ws

-- the words of line n, none where it is a comment
abbrev pub line_words : ℕ → List ℕ → List Word
line_words n l = cond (is_comment l) [] (marked n (words_of l))

-- the words of the lines from number n on
abbrev pub words_from : ℕ → List (List ℕ) → List Word
words_from n [] = []
words_from n (l ∷ ls) = line_words n l ++ words_from (n + 1) ls

abbrev pub text_words : List ℕ → List Word
text_words text = words_from 1 (text_lines text)

-- the number of the last line, and 1 in an empty text
abbrev pub last_line : List (List ℕ) → ℕ
last_line [] = 1
last_line (l ∷ ls) = length (l ∷ ls)
