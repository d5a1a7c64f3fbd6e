use Rattle.std.proofs.Common.{◌≡◌, drop}
use Rattle.std.specs.List.{list_all}
use Rattle.command_words.specs.Values as spec
use Rattle.command_words.proofs.values.are_macro_bytes.Given as goal

abbrev pub invariant-loop-byte : goal.invariant-loop-byte
invariant-loop-byte l = list_all spec.is_macro_byte (drop l.byte-index l.name) ≡ list_all spec.is_macro_byte l.name
