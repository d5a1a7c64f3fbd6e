use Rattle.std.proofs.Common.{◌≡◌, map, take}
use Rattle.clap.specs.Words.{app_of}
use Rattle.command_words.specs.App as spec
use Rattle.command_words.specs.Seen.{seen_row}
use Rattle.command_words.specs.Table.{those_with}
use Rattle.command_words.proofs.matching.with_options.Given as goal

abbrev pub invariant-loop-row : goal.invariant-loop-row
invariant-loop-row l = app_of l.command ≡ spec.app_with l.verb (map spec.option_rule (those_with l.verb (map seen_row (take l.row-index l.rows))))
