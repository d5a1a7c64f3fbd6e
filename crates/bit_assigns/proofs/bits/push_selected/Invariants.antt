use Rattle.std.proofs.Common.{◌≡◌, ◌++◌, map, pos, ◌+ℤ◌}
use Rattle.std.specs.List.{range_with_len}
use Rattle.bit_assigns.specs.Bits.{source_or_int}
use Rattle.bit_assigns.proofs.bits.push_selected.Given as goal

abbrev pub invariant-loop-at : goal.invariant-loop-at
invariant-loop-at l = l.all.items ≡ l.fn.all.items ++ map (λ k. source_or_int l.fn.bits (l.fn.low +ℤ pos k)) (range_with_len 0 l.at)
