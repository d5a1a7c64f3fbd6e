-- The commands.
use Rattle.std.specs.Prelude.{List, [], ◌∷◌, ℕ, Option, Some, None, if◌then◌else◌, codes, option_map}
use Rattle.command_words.specs.Table.{is_whole, names_of, options_of, value_in, verb_of}
use Rattle.command_words.specs.Values.{number_in, options_by, text_or_none}
use Rattle.command_words.specs.Words.{Line, Text, line_of, then_some}
use Rattle.command_words.specs.declared.options.Options.{Options}
use Rattle.command_words.specs.declared.table.Verb.{Verb}
use Rattle.command_words.specs.declared.table.Verb.TheVariants as verb

-- what a check prints: its report, or the proof of a row
pub data Form : Type 0 where
  report : Form
  proof : Text → Form

-- rows of a table over sources
pub record CheckWords : Type 0 where
  pub options : Options
  pub table : Text
  pub form : Form
  pub files : List Text

-- the connections of a plan in sources
pub record ExtractWords : Type 0 where
  pub options : Options
  pub plan : Text
  pub files : List Text

-- the lines of a script
pub record SessionWords : Type 0 where
  pub options : Options
  pub script : Text

-- a trace of a row of a table over sources
pub record ReplayWords : Type 0 where
  pub options : Options
  pub table : Text
  pub trace : Text
  pub files : List Text

-- a command with its values
pub data Command : Type 0 where
  check : CheckWords → Command
  extract : ExtractWords → Command
  session : SessionWords → Command
  replay : ReplayWords → Command
  lrat : List Text → Command
  gen : ℕ → Command

abbrev pub form_of : Option Text → Form
form_of None = report
form_of (Some row) = proof row

abbrev pub blocks_of : List Text → Option ℕ
blocks_of [] = None
blocks_of (word ∷ more) = number_in 1 500 word

-- the command of a word, by the values of its options and its files
abbrev pub command_by : Verb → (Text → Option Text) → List Text → Option Command
command_by verb.Check value files = option_map (λ o. check (record {
  options = o;
  table = text_or_none (value (codes "table"));
  form = form_of (value (codes "proof"));
  files = files;
})) (options_by value)
command_by verb.Extract value files = option_map (λ o. extract (record {
  options = o;
  plan = text_or_none (value (codes "plan"));
  files = files;
})) (options_by value)
command_by verb.Session value files = option_map (λ o. session (record {
  options = o;
  script = text_or_none (value (codes "script"));
})) (options_by value)
command_by verb.Replay value files = option_map (λ o. replay (record {
  options = o;
  table = text_or_none (value (codes "table"));
  trace = text_or_none (value (codes "trace"));
  files = files;
})) (options_by value)
command_by verb.Lrat value files = Some (lrat files)
command_by verb.Gen value files = option_map gen (blocks_of files)

abbrev pub command_of_line : Verb → Line → Option Command
command_of_line verb l = if is_whole verb l then command_by verb (value_in verb l.pairs) l.files else None

abbrev pub command_behind : List Text → Verb → Option Command
command_behind words verb = then_some (line_of (names_of (options_of verb)) words) (command_of_line verb)

-- the command that words spell: its own word first, then options with their values, then files
abbrev pub command : List Text → Option Command
command [] = None
command (word ∷ words) = then_some (verb_of word) (command_behind words)
