use Rattle.std.proofs.Common.{◌≡◌, drop}
use Rattle.std.specs.List.{list_all}
use Rattle.plain_form.specs.Table as spec
use Rattle.plain_form.proofs.table.are_row_bytes.Given as goal

abbrev pub invariant-loop-byte : goal.invariant-loop-byte
invariant-loop-byte l = list_all spec.is_row_byte (drop l.byte-index l.word) ≡ list_all spec.is_row_byte l.word
