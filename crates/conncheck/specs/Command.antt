-- The commands.
use Rattle.std.specs.Prelude.{◌≡◌, List, [], ◌∷◌, Option, Some, None, if◌then◌else◌, codes, option_map}
use Rattle.std.specs.Str.{bytes_eq}
use Rattle.shelf_io.specs.Files.{Files}
use Rattle.conncheck.specs.Reply.{Reply, bad_words}
use Rattle.conncheck.specs.Words.{Text}
use Rattle.conncheck.specs.commands.Check as checks
use Rattle.conncheck.specs.commands.Lrat as logs

-- a command with its values
pub data Command : Type 0 where
  check : checks.Values → Command
  lrat : logs.Values → Command

-- the command that words spell: its own word first, and then its values
abbrev pub command : List Text → Option Command
command [] = None
command (c ∷ ws) =
    if bytes_eq c (codes "check") then option_map check (checks.values ws) else (
    if bytes_eq c (codes "lrat") then option_map lrat (logs.values ws) else None)

-- the replies of a call
abbrev pub IsReply : Option Command → Files → Reply → Type 0
IsReply None files r = r ≡ bad_words
IsReply (Some (check v)) files r = checks.Means v files r
IsReply (Some (lrat v)) files r = logs.Means v files r
