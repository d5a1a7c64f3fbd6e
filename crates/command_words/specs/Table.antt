-- The words of the commands, and the table of their options.
use Rattle.std.specs.Prelude.{List, [], ◌∷◌, ◌++◌, ◌==◌, ◌&&◌, ◌||◌, ◌≤◌, ℕ, Bool, true, false, not, Option, Some, None, if◌then◌else◌, codes, length, map, nat_lt}
use Rattle.std.specs.List.{list_all}
use Rattle.std.specs.Str.{bytes_eq}
use Rattle.command_words.specs.Words.{Line, Pair, Text, is_given, is_once, value_of}
use Rattle.command_words.specs.declared.table.Verb.{Verb}
use Rattle.command_words.specs.declared.table.Verb.TheVariants.{Check, Extract, Session, Replay, Lrat, Gen}

-- the command of a word
abbrev pub verb_of : Text → Option Verb
verb_of word =
    if bytes_eq word (codes "check") then Some Check else (
    if bytes_eq word (codes "extract") then Some Extract else (
    if bytes_eq word (codes "session") then Some Session else (
    if bytes_eq word (codes "replay") then Some Replay else (
    if bytes_eq word (codes "lrat") then Some Lrat else (
    if bytes_eq word (codes "gen") then Some Gen else None)))))

abbrev pub word_of : Verb → Text
word_of Check = codes "check"
word_of Extract = codes "extract"
word_of Session = codes "session"
word_of Replay = codes "replay"
word_of Lrat = codes "lrat"
word_of Gen = codes "gen"

-- an option: its name, what usage texts call its value, the commands that have it, whether they want it, and the value that counts where it is not given
pub record Row : Type 0 where
  pub name : Text
  pub value : Text
  pub check : Bool
  pub extract : Bool
  pub session : Bool
  pub replay : Bool
  pub wanted : Bool
  pub usual : Option Text

abbrev pub row : Text → Text → Bool → Bool → Bool → Bool → Bool → Option Text → Row
row name value check extract session replay wanted usual =
    record { name = name; value = value; check = check; extract = extract; session = session; replay = replay; wanted = wanted; usual = usual }

--      name             value               check extract session replay wanted usual
abbrev pub rows : List Row
rows =
    row (codes "top") (codes "M") true true true true true None ∷
    row (codes "table") (codes "F") true false false true true None ∷
    row (codes "plan") (codes "F") false true false false true None ∷
    row (codes "script") (codes "F") false false true false true None ∷
    row (codes "trace") (codes "F") false false false true true None ∷
    row (codes "clock") (codes "LIST") true true true true false None ∷
    row (codes "reset") (codes "NAME=V,N") true true true true false None ∷
    row (codes "pin") (codes "LIST") true true true true false None ∷
    row (codes "define") (codes "LIST") true true true true false None ∷
    row (codes "box") (codes "LIST") true true false false false None ∷
    row (codes "stub") (codes "LIST") true true false true false None ∷
    row (codes "depth") (codes "N") true false true false false (Some (codes "8")) ∷
    row (codes "budget") (codes "N") true true true true false (Some (codes "4000")) ∷
    row (codes "proof") (codes "ROW") true false false false false None ∷ []

abbrev pub has : Verb → Row → Bool
has Check r = r.check
has Extract r = r.extract
has Session r = r.session
has Replay r = r.replay
has Lrat r = false
has Gen r = false

abbrev pub those_with : Verb → List Row → List Row
those_with verb [] = []
those_with verb (r ∷ rs) = if has verb r then r ∷ those_with verb rs else those_with verb rs

-- the options of a command
unfoldable pub options_of : Verb → List Row
options_of verb = those_with verb rows

abbrev pub names_of : List Row → List Text
names_of = map (λ r. r.name)

-- each option that is wanted is given
abbrev pub are_wanted_given : List Row → List Pair → Bool
are_wanted_given rs pairs = list_all (λ r. not r.wanted || is_given pairs r.name) rs

-- how many files a command takes; of `gen` the word behind it counts as one
abbrev pub takes_files : Verb → ℕ → Bool
takes_files Check n = nat_lt 0 n
takes_files Extract n = nat_lt 0 n
takes_files Session n = n == 0
takes_files Replay n = nat_lt 0 n
takes_files Lrat n = (n == 1) || (n == 2)
takes_files Gen n = n == 1

-- no option stands twice, none is missing, and the files are as many as the command takes
abbrev pub is_whole : Verb → Line → Bool
is_whole verb l = is_once l.pairs && (are_wanted_given (options_of verb) l.pairs && takes_files verb (length l.files))

abbrev pub or_usual : Option Text → Option Text → Option Text
or_usual None usual = usual
or_usual (Some value) usual = Some value

-- the value that counts where an option is not given, of the first row of its name that has one
abbrev pub usual_of : List Row → Text → Option Text
usual_of [] name = None
usual_of (r ∷ rs) name = or_usual (if bytes_eq r.name name then r.usual else None) (usual_of rs name)

-- the value of an option: the one that it was given, else the usual one
abbrev pub value_in : Verb → List Pair → Text → Option Text
value_in verb pairs name = or_usual (value_of pairs name) (usual_of (options_of verb) name)
