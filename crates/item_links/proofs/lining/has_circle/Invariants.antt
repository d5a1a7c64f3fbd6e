use Rattle.std.proofs.Common.{◌≡◌, ℕ, ◌<◌, ◌≤◌, false}
use Rattle.item_links.specs.Orders.{is_turned}
use Rattle.item_links.proofs.lining.has_circle.Given as goal

abbrev pub invariant-loop-bit : goal.invariant-loop-bit
invariant-loop-bit l = (n : ℕ) → l.fn.from ≤ n → n < l.bit → is_turned l.drivers l.circular n ≡ false
