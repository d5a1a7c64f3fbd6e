-- A command as `clap` sees it.
use Rattle.std.specs.Prelude.{◌≡◌, List, [], ◌∷◌, ◌++◌, Bool, true, false, Option, Some, None, Result, Ok, Err, ⊤, codes, map}
use Rattle.std.specs.Str.{bytes_eq}
use Rattle.clap.specs.Words.{App, Rule, new_rule, first_value, found_of}
use Rattle.clap.specs.Simple.{new_shape}
use Rattle.clap.specs.declared.builder.action.ArgAction.{ArgAction}
use Rattle.clap.specs.declared.builder.action.ArgAction.TheVariants.{Set, Append}
use Rattle.clap.specs.declared.parser.matches.ArgMatches.{ArgMatches}
use Rattle.command_words.specs.Table as table
use Rattle.command_words.specs.Words.{Line, Text}
use Rattle.command_words.specs.declared.stop.WordsStop.{WordsStop}
use Rattle.command_words.specs.declared.stop.WordsStop.TheVariants as stop
use Rattle.command_words.specs.declared.table.Verb.{Verb}
use Rattle.command_words.specs.declared.table.Verb.TheVariants.{Check, Extract, Session, Replay, Lrat, Gen}

abbrev pub usual_texts : Option Text → List Text
usual_texts None = []
usual_texts (Some text) = text ∷ []

abbrev pub option_rule : table.Row → Rule
option_rule r = record (new_rule r.name) { long = Some r.name; required = r.wanted; action = Some Set; defaults = usual_texts r.usual }

abbrev pub file_rule : ArgAction → Rule
file_rule action = record (new_rule (codes "FILE")) { required = true; action = Some action }

abbrev pub log_rule : Rule
log_rule = record (new_rule (codes "LOG")) { action = Some Set }

-- the files of a command, by their places
abbrev pub file_rules : Verb → List Rule
file_rules Check = file_rule Append ∷ []
file_rules Extract = file_rule Append ∷ []
file_rules Session = []
file_rules Replay = file_rule Append ∷ []
file_rules Lrat = file_rule Set ∷ log_rule ∷ []
file_rules Gen = file_rule Set ∷ []

-- a command with these arguments, which reads the words behind its own
abbrev pub app_with : Verb → List Rule → App
app_with verb rules = let s = new_shape (table.word_of verb) in record {
  top = record s { rules = rules; disable_help_flag = true; no_binary_name = true };
  subs = [];
}

abbrev pub app_for : Verb → App
app_for verb = app_with verb (map option_rule (table.options_of verb) ++ file_rules verb)

-- the name is that of no file
abbrev pub NoFile : Text → Type 0
NoFile name = (bytes_eq (codes "FILE") name ≡ false) × (bytes_eq (codes "LOG") name ≡ false)

-- the matches of a line have the values of its options, and the line is whole; it is refused exactly where it is not
abbrev pub IsMatched : Verb → Line → Result ArgMatches WordsStop → Type 0
IsMatched verb l (Ok m) = (table.is_whole verb l ≡ true) × ((name : Text) → NoFile name → first_value (found_of m) name ≡ table.value_in verb l.pairs name)
IsMatched verb l (Err stop.BadWords) = table.is_whole verb l ≡ false
IsMatched verb l (Err stop.NoMemory) = ⊤
