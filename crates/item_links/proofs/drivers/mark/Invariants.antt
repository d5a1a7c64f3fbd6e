use Rattle.std.proofs.Common.{◌≡◌, ℕ, ◌<◌, ◌≤◌, true, ◌⊎◌, Some}
use Rattle.item_order.specs.Spans.{holds, driver_in}
use Rattle.item_links.proofs.drivers.mark.Given as goal

abbrev pub invariant-loop-bit : goal.invariant-loop-bit
invariant-loop-bit l = record {
  keeps : (n j : ℕ) → driver_in l.initial.drivers n ≡ Some j → driver_in l.drivers n ≡ Some j;
  only : (n j : ℕ) → driver_in l.drivers n ≡ Some j → (driver_in l.initial.drivers n ≡ Some j) ⊎ ((j ≡ l.item) × (holds l.fn.span n ≡ true));
  all : (n : ℕ) → l.fn.span.from ≤ n → n < l.bit → driver_in l.drivers n ≡ Some l.item;
}
