-- Rows and commands as the code holds them, and what a reading gives.
use Rattle.std.specs.Prelude.{◌≡◌, List, Option, Some, None, Result, Ok, Err, ⊤, map, option_map, string_bytes}
use Rattle.command_words.specs.Table.{Row}
use Rattle.command_words.specs.Commands as spec
use Rattle.command_words.specs.declared.commands.CheckForm.{CheckForm}
use Rattle.command_words.specs.declared.commands.CheckForm.TheVariants as form
use Rattle.command_words.specs.declared.commands.CheckWords.{CheckWords}
use Rattle.command_words.specs.declared.commands.Command.{Command}
use Rattle.command_words.specs.declared.commands.Command.TheVariants as command
use Rattle.command_words.specs.declared.stop.WordsStop.{WordsStop}
use Rattle.command_words.specs.declared.stop.WordsStop.TheVariants as stop
use Rattle.command_words.specs.declared.table.OptionRow.{OptionRow}

abbrev pub seen_row : OptionRow → Row
seen_row r = record {
  name = r.0.now;
  value = r.1.now;
  check = r.2;
  extract = r.3;
  session = r.4;
  replay = r.5;
  wanted = r.6;
  usual = option_map (λ u. u.now) r.7;
}

-- a form and a command as the code holds them
abbrev pub seen_form : CheckForm → spec.Form
seen_form form.Report = spec.report
seen_form (form.Proof row) = spec.proof row.now

abbrev pub seen_check : CheckWords → spec.CheckWords
seen_check c = record { options = c.options; table = c.table.now; form = seen_form c.form; files = map string_bytes c.files.now }

abbrev pub seen_command : Command → spec.Command
seen_command (command.Check c) = spec.check (seen_check c)
seen_command (command.Extract c) = spec.extract (record { options = c.options; plan = c.plan.now; files = map string_bytes c.files.now })
seen_command (command.Session c) = spec.session (record { options = c.options; script = c.script.now })
seen_command (command.Replay c) = spec.replay (record { options = c.options; table = c.table.now; trace = c.trace.now; files = map string_bytes c.files.now })
seen_command (command.Lrat files) = spec.lrat (map string_bytes files.now)
seen_command (command.Gen blocks) = spec.gen blocks

-- what is read is what is defined; BadWords comes exactly where nothing is
abbrev pub Gives : {A B : Type 0} → (A → B) → Option B → Result A WordsStop → Type 0
Gives seen o (Ok a) = o ≡ Some (seen a)
Gives seen o (Err stop.BadWords) = o ≡ None
Gives seen o (Err stop.NoMemory) = ⊤
