use Rattle.std.proofs.Common.{◌≡◌, ◌++◌, map, length, nat_lt, if◌then◌else◌}
use Rattle.std.specs.List.{range_with_len}
use Rattle.bit_assigns.specs.Bits.{filling, source_or}
use Rattle.bit_assigns.proofs.bits.push_extended.Given as goal

abbrev pub invariant-loop-at : goal.invariant-loop-at
invariant-loop-at l = l.all.items ≡ l.fn.all.items ++ map (λ k. if nat_lt k (length l.bits) then source_or l.bits k else filling l.keeps l.bits) (range_with_len 0 l.at)
