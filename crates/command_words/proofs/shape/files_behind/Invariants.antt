use Rattle.std.proofs.Common.{◌≡◌, length, map, string_bytes}
use Rattle.command_words.specs.Table.{names_of, options_of}
use Rattle.command_words.proofs.ShapeLaws.{files_of}
use Rattle.command_words.proofs.shape.files_behind.Given as goal

abbrev pub invariant-options : goal.invariant-options
invariant-options l = files_of (names_of (options_of l.verb)) (map string_bytes l.rest) ≡ files_of (names_of (options_of l.verb)) (map string_bytes l.words)

abbrev pub decreases-options : goal.decreases-options
decreases-options l = length l.rest
