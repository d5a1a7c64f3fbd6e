use Rattle.std.proofs.Common.{◌≡◌, drop, map, string_bytes}
use Rattle.std.specs.List.{list_all}
use Rattle.command_words.specs.Words as spec
use Rattle.command_words.proofs.shape.are_plain.Given as goal

abbrev pub invariant-loop-word : goal.invariant-loop-word
invariant-loop-word l = list_all spec.is_plain (map string_bytes (drop l.word-index l.words)) ≡ list_all spec.is_plain (map string_bytes l.words)
