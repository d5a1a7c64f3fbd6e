use Rattle.std.proofs.Common.{◌≡◌}
use Rattle.design_core.specs.Numbers.{first_number}
use Rattle.design_core.specs.Wellformed.{signal_lengths}
use Rattle.item_links.proofs.OrderLaws.{NoneBefore}
use Rattle.item_links.proofs.lining.first_circle.Given as goal

abbrev pub invariant-loop-at : goal.invariant-loop-at
invariant-loop-at l = record {
  start : l.start ≡ first_number (signal_lengths l.signals) l.at;
  none : NoneBefore (signal_lengths l.signals) l.drivers l.circular l.at;
}
