use Rattle.std.proofs.Common.{◌≡◌, drop}
use Rattle.std.specs.List.{list_all}
use Rattle.plain_form.specs.Modules as spec
use Rattle.plain_form.proofs.name_form.are_name_bytes.Given as goal

abbrev pub invariant-loop-byte : goal.invariant-loop-byte
invariant-loop-byte l = list_all spec.is_name_byte (drop l.byte-index l.word) ≡ list_all spec.is_name_byte l.word
