-- The usage text.
use Rattle.std.specs.Prelude.{List, [], ◌∷◌, ◌++◌, ℕ, if◌then◌else◌, codes, flat_map}
use Rattle.command_words.specs.Table.{Row, options_of, word_of}
use Rattle.command_words.specs.Words.{Text}
use Rattle.command_words.specs.declared.table.Verb.{Verb}
use Rattle.command_words.specs.declared.table.Verb.TheVariants.{Check, Extract, Session, Replay, Lrat, Gen}

-- what stands behind a command's word and its options
abbrev pub files_text : Verb → Text
files_text Check = codes " FILE.."
files_text Extract = codes " FILE.."
files_text Session = []
files_text Replay = codes " FILE.."
files_text Lrat = codes " FORMULA [LOG]"
files_text Gen = codes " N"

-- the line of an option, in brackets where the command does not want it
abbrev pub option_line : Row → Text
option_line r =
    ((((if r.wanted then codes "    --" else codes "    [--") ++ r.name) ++ codes " ") ++ r.value) ++ (if r.wanted then codes "\n" else codes "]\n")

-- a command, and a line for each of its options
abbrev pub command_text : Verb → Text
command_text verb = (((codes "  conncheck " ++ word_of verb) ++ files_text verb) ++ codes "\n") ++ flat_map option_line (options_of verb)

abbrev pub verbs : List Verb
verbs = Check ∷ Extract ∷ Session ∷ Replay ∷ Lrat ∷ Gen ∷ []

abbrev pub usage_text : Text
usage_text = codes "usage:\n" ++ flat_map command_text verbs
