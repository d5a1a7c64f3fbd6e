use Rattle.std.proofs.Common.{◌≡◌, drop}
use Rattle.std.specs.List.{list_all}
use Rattle.conncheck.specs.commands.Check as spec
use Rattle.conncheck.proofs.commands.check.are_macro_bytes.Given as goal

abbrev pub invariant-loop-byte : goal.invariant-loop-byte
invariant-loop-byte l = list_all spec.is_macro_byte (drop l.byte-index l.name) ≡ list_all spec.is_macro_byte l.name
