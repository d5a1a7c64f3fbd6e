-- Lines, values and messages as the code holds them.
use Rattle.std.specs.Prelude.{map, option_map, string_bytes, Option, List, ℕ}
use denote.Ref.{Bor}
use Rattle.vl_lex.specs.Sources.{files_of}
use Rattle.conncheck.specs.Command as spec
use Rattle.conncheck.specs.Reply as reply
use Rattle.conncheck.specs.Texts.{place_text}
use Rattle.conncheck.specs.Words as words
use Rattle.conncheck.specs.commands.Check as check
use Rattle.conncheck.specs.declared.commands.Command.{Command}
use Rattle.conncheck.specs.declared.commands.Command.TheVariants as command
use Rattle.conncheck.specs.declared.commands.check.Check.{Check}
use Rattle.conncheck.specs.declared.message.Message.{Message}
use Rattle.conncheck.specs.declared.message.Message.TheVariants as message
use Rattle.conncheck.specs.declared.words.Line.{Line}
use Rattle.conncheck.specs.declared.words.Pair.{Pair}

abbrev pub seen_pair : Pair → words.Pair
seen_pair p = record { option = p.option.now; value = p.value.now }

abbrev pub seen_line : Line → words.Line
seen_line l = record { pairs = map seen_pair l.pairs.items; files = map string_bytes l.files.now }

abbrev pub seen_word : Option (Bor (List ℕ)) → Option (List ℕ)
seen_word word = option_map (λ w. w.now) word

abbrev pub seen_check : Check → check.Values
seen_check c = record { top = c.top.now; table = c.table.now; defines = c.defines; files = map string_bytes c.files.now }

abbrev pub seen_command : Command → spec.Command
seen_command (command.Check c) = spec.check (seen_check c)
seen_command (command.Lrat files) = spec.lrat (map string_bytes files.now)

-- the reply that a message says
abbrev pub said : Message → reply.Reply
said message.BadWords = reply.bad_words
said (message.Missing name) = reply.missing name.now
said (message.Limit code) = reply.limited code
said (message.Fault files fault) = reply.refused fault.now.code (place_text (files_of files.now) fault.now.place)
said (message.NotYet name) = reply.not_yet name.now
said (message.Log answer) = reply.logged answer
