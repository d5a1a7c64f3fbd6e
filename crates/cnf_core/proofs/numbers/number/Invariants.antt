use Rattle.std.proofs.Common.{◌≡◌, take, drop}
use Rattle.std.specs.Str.{all_ascii_digits}
use Rattle.std.specs.Str.Parse.{digits_value}
use Rattle.cnf_core.proofs.NumberLaws.{Follows}
use Rattle.cnf_core.proofs.numbers.number.Given as goal

abbrev pub invariant-loop-byte : goal.invariant-loop-byte
invariant-loop-byte l = record {
  value : Follows l.value (digits_value 10 (take l.byte-index l.word));
  digits : all_ascii_digits (drop l.byte-index l.word) ≡ all_ascii_digits l.word;
}
