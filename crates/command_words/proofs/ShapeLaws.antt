-- The files of the line that words spell.
use Rattle.std.proofs.Common.{arith, map, ◌<◌, ◌≡◌, ◌≤◌, ◌-◌, ◌∙◌, true, false, Bool, List, [], ◌∷◌, length, take, drop, get_or, sym, ap, refl, if◌then◌else◌, Option, Some, None, is_some, option_map}
use Rattle.std.proofs.lemmas.List.{take_all}
use Rattle.std.proofs.lemmas.Bool.{false≢true}
use Rattle.command_words.specs.Words.{Line, Text, before, files_alone, is_plain, line_of, name_in, option_in, with_pair}

pub two : {X : Type 0} (xs : List X) (d e : X) → 2 ≤ length xs → xs ≡ get_or xs 0 d ∷ get_or xs 1 e ∷ take (length xs - 2) (drop 2 xs)
two [] d e h = absurd (omega arith)
two (x ∷ []) d e h = absurd (omega arith)
two (x ∷ y ∷ r) d e h = ap (λ t. x ∷ y ∷ t) (sym (take_all (length (x ∷ y ∷ r) - 2) r (omega arith)))

abbrev pub files_in : Option Line → Option (List Text)
files_in = option_map (λ l. l.files)

abbrev pub files_of : List Text → List Text → Option (List Text)
files_of names words = files_in (line_of names words)

kept : (name value : Text) (o : Option Line) → files_in (option_map (with_pair name value) o) ≡ files_in o
kept name value None = refl
kept name value (Some l) = refl

module _ (names : List Text) (word value : Text) (rest : List Text) where
  choice : (b : Bool) → is_plain word ≡ b
      → files_of names (word ∷ value ∷ rest) ≡ files_in (if b then files_alone (word ∷ value ∷ rest) else before (option_in names (name_in word)) value (line_of names rest))
  choice b e = ap (λ (t : Bool). files_in (if t then files_alone (word ∷ value ∷ rest) else before (option_in names (name_in word)) value (line_of names rest))) e

  -- one option more
  pub option_moves : is_plain word ≡ false → is_some (option_in names (name_in word)) ≡ true → is_plain value ≡ true → files_of names rest ≡ files_of names (word ∷ value ∷ rest)
  option_moves first second third = sym (choice false first ∙ go (option_in names (name_in word)) second)
    where
      go : (o : Option Text) → is_some o ≡ true → files_in (before o value (line_of names rest)) ≡ files_of names rest
      go None h = absurd (false≢true h)
      go (Some name) h = ap (λ (t : Bool). files_in (if t then option_map (with_pair name value) (line_of names rest) else None)) third ∙ kept name value (line_of names rest)

  -- a word that is no option of the command, or has no value
  pub option_refused : is_plain word ≡ false → is_some (option_in names (name_in word)) ≡ false → None ≡ files_of names (word ∷ value ∷ rest)
  option_refused first second = sym (choice false first ∙ go (option_in names (name_in word)) second)
    where
      go : (o : Option Text) → is_some o ≡ false → files_in (before o value (line_of names rest)) ≡ None
      go None h = refl
      go (Some name) h = absurd (false≢true (sym h))

  pub value_refused : is_plain word ≡ false → is_plain value ≡ false → None ≡ files_of names (word ∷ value ∷ rest)
  value_refused first second = sym (choice false first ∙ go (option_in names (name_in word)))
    where
      go : (o : Option Text) → files_in (before o value (line_of names rest)) ≡ None
      go None = refl
      go (Some name) = ap (λ (t : Bool). files_in (if t then option_map (with_pair name value) (line_of names rest) else None)) second

  -- the file names begin
  pub files_begin : is_plain word ≡ true → files_in (files_alone (word ∷ value ∷ rest)) ≡ files_of names (word ∷ value ∷ rest)
  files_begin first = sym (choice true first)

-- a word alone, or none, is a file
pub short : {X : Type 0} (f : X → Text) (names : List Text) (xs : List X) → length xs < 2 → files_in (files_alone (map f xs)) ≡ files_of names (map f xs)
short f names [] lt = refl
short f names (x ∷ []) lt = refl
short f names (x ∷ y ∷ xs) lt = absurd (omega arith)
