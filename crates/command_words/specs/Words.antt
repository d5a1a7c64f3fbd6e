-- The words of a command line.
use Rattle.std.specs.Prelude.{List, [], ◌∷◌, ℕ, Bool, true, false, not, ◌==◌, ◌&&◌, Option, Some, None, is_none, is_some, if◌then◌else◌, option_map}
use Rattle.std.specs.List.{list_all, list_any}
use Rattle.std.specs.Str.{bytes_eq}

abbrev pub Text : Type 0
Text = List ℕ

-- a word that may stand as a value or a file name: it is not empty and does not begin with `-`
abbrev pub is_plain : Text → Bool
is_plain [] = false
is_plain (b ∷ bs) = not (b == 45)

-- an option with its value
pub record Pair : Type 0 where
  pub option : Text
  pub value : Text

-- the words behind a command's word: options with their values, and the names of files
pub record Line : Type 0 where
  pub pairs : List Pair
  pub files : List Text

-- the value that an option was given
abbrev pub value_of : List Pair → Text → Option Text
value_of [] name = None
value_of (p ∷ ps) name = if bytes_eq p.option name then Some p.value else value_of ps name

abbrev pub is_given : List Pair → Text → Bool
is_given pairs name = list_any (λ p. bytes_eq p.option name) pairs

-- no option stands twice
abbrev pub is_once : List Pair → Bool
is_once [] = true
is_once (p ∷ ps) = not (is_given ps p.option) && is_once ps

-- the name of the option that a word spells: what stands behind two hyphens
abbrev pub name_in : Text → Option Text
name_in (a ∷ b ∷ name) = if (a == 45) && (b == 45) then Some name else None
name_in _ = None

abbrev pub is_among : List Text → Text → Bool
is_among names name = list_any (λ n. bytes_eq n name) names

-- the option of the command that a word spells
abbrev pub option_in : List Text → Option Text → Option Text
option_in names None = None
option_in names (Some name) = if is_among names name then Some name else None

-- nothing but file names
abbrev pub files_alone : List Text → Option Line
files_alone files = if list_all is_plain files then Some (record { pairs = []; files = files }) else None

abbrev pub with_pair : Text → Text → Line → Line
with_pair name value l = record { pairs = (record { option = name; value = value }) ∷ l.pairs; files = l.files }

-- an option with its value, in front of a line
abbrev pub before : Option Text → Text → Option Line → Option Line
before None value line = None
before (Some name) value line = if is_plain value then option_map (with_pair name value) line else None

-- the line that words spell for a command with options of these names: options, each with a value, up to a word that does not begin with `-`, and then file names
abbrev pub line_of : List Text → List Text → Option Line
line_of names [] = files_alone []
line_of names (w ∷ []) = files_alone (w ∷ [])
line_of names (word ∷ value ∷ rest) =
    if is_plain word then files_alone (word ∷ value ∷ rest)
    else before (option_in names (name_in word)) value (line_of names rest)

abbrev pub then_some : {A B : Type 0} → Option A → (A → Option B) → Option B
then_some None f = None
then_some (Some a) f = f a
