use Rattle.std.proofs.Common.{◌≡◌, ℕ, ◌-◌, ◌<◌, ◌≤◌, length}
use Rattle.cyc_net.specs.Cycles.{bit_of}
use Rattle.unroller.proofs.tables.place_of.Given as goal

abbrev pub invariant-loop-low : goal.invariant-loop-low
invariant-loop-low l = record {
  order : l.low ≤ l.high;
  within : l.high ≤ length l.bits;
  below : (k : ℕ) → k < l.low → bit_of l.bits k < l.bit;
  above : (k : ℕ) → l.high ≤ k → k < length l.bits → l.bit < bit_of l.bits k;
}

abbrev pub decreases-loop-low : goal.decreases-loop-low
decreases-loop-low l = l.high - l.low
