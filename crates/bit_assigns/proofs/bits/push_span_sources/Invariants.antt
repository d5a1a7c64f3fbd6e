use Rattle.std.proofs.Common.{◌≡◌, ◌++◌, map, pos, ◌+ℤ◌}
use Rattle.std.specs.List.{range_with_len}
use Rattle.design_core.specs.Core.{spot}
use Rattle.bit_assigns.specs.Bits.{source_at}
use Rattle.bit_assigns.proofs.bits.push_span_sources.Given as goal

abbrev pub invariant-loop-at : goal.invariant-loop-at
invariant-loop-at l = l.all.items ≡ l.fn.all.items ++ map (λ k. source_at l.fn.signal l.fn.size (spot l.fn.size (l.fn.low +ℤ pos k))) (range_with_len 0 l.at)
