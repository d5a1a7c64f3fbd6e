use Rattle.std.proofs.Common.{◌≡◌, drop, map}
use Rattle.command_words.specs.Seen.{seen_row}
use Rattle.command_words.specs.Table.{names_of, those_with}
use Rattle.command_words.specs.Words as spec
use Rattle.command_words.proofs.shape.has_option.Given as goal

abbrev pub invariant-loop-row : goal.invariant-loop-row
invariant-loop-row l = spec.is_among (names_of (those_with l.verb (map seen_row (drop l.row-index l.rows)))) l.name ≡ spec.is_among (names_of (those_with l.verb (map seen_row l.rows))) l.name
