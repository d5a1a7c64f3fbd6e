use Rattle.std.proofs.Common.{◌≡◌, ◌++◌, drop, flat_map, map}
use Rattle.command_words.specs.Seen.{seen_row}
use Rattle.command_words.specs.Table.{those_with}
use Rattle.command_words.specs.Usage as spec
use Rattle.command_words.proofs.usage_text.put_options.Given as goal

abbrev pub invariant-loop-row : goal.invariant-loop-row
invariant-loop-row l = l.out.items ++ flat_map spec.option_line (those_with l.verb (map seen_row (drop l.row-index l.rows))) ≡ l.initial.out.items ++ flat_map spec.option_line (those_with l.verb (map seen_row l.rows))
