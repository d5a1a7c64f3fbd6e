use Rattle.std.proofs.Common.{◌≡◌, ◌<◌, ◌^◌, drop}
use Rattle.vl_lex.specs.Numbers.{value_from}
use Rattle.vl_lex.proofs.numbers.value_of.Given as goal

abbrev pub invariant-loop-byte : goal.invariant-loop-byte
invariant-loop-byte l = record { goes_on : value_from l.base l.value (drop l.byte-index l.digits) ≡ value_from l.base 0 l.digits; small : l.value < 2 ^ 128 }
