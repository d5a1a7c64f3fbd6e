-- The words of a command line.
use Rattle.std.specs.Prelude.{List, [], ◌∷◌, ◌++◌, ℕ, Bool, false, not, ◌==◌, ◌&&◌, Option, Some, None, is_none, if◌then◌else◌}
use Rattle.std.specs.List.{list_all, list_any}
use Rattle.std.specs.Str.{bytes_eq}

abbrev pub Text : Type 0
Text = List ℕ

-- a word that may stand as a value or a file name: it is not empty and does not begin with `-`
abbrev pub is_plain : Text → Bool
is_plain [] = false
is_plain (b ∷ bs) = not (b == 45)

-- an option with its value
pub record Pair : Type 0 where
  pub option : Text
  pub value : Text

-- the words behind a command's word: options with their values, and the names of files
pub record Line : Type 0 where
  pub pairs : List Pair
  pub files : List Text

-- the value that an option was given
abbrev pub value_of : List Pair → Text → Option Text
value_of [] name = None
value_of (p ∷ ps) name = if bytes_eq p.option name then Some p.value else value_of ps name

-- whether a command has an option of this name
abbrev pub is_among : List Text → Text → Bool
is_among names name = list_any (λ n. bytes_eq name n) names

-- nothing but file names follows
abbrev pub files_behind : List Pair → List Text → Option Line
files_behind pairs files = if list_all is_plain files then Some (record { pairs = pairs; files = files }) else None

-- an option that the command has and that was not given yet, with its value
abbrev pub takes : List Text → List Pair → Text → Text → Bool
takes allowed pairs name value = is_plain value && (is_among allowed name && is_none (value_of pairs name))

-- options, each with its value, up to a word that does not begin with `-`, and then the file names
abbrev pub line_from : List Text → List Pair → List Text → Option Line
line_from allowed pairs [] = files_behind pairs []
line_from allowed pairs (w ∷ []) = files_behind pairs (w ∷ [])
line_from allowed pairs (name ∷ value ∷ rest) =
    if is_plain name then files_behind pairs (name ∷ value ∷ rest)
    else (if takes allowed pairs name value then line_from allowed (pairs ++ (record { option = name; value = value }) ∷ []) rest else None)

-- the line that words spell for a command with these options, if they spell one
abbrev pub line_of : List Text → List Text → Option Line
line_of allowed words = line_from allowed [] words

abbrev pub then_some : {A B : Type 0} → Option A → (A → Option B) → Option B
then_some None f = None
then_some (Some a) f = f a
