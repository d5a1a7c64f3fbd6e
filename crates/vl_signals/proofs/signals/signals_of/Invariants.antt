use Rattle.std.proofs.Common.{◌≡◌, ◌++◌, length, drop}
use Rattle.vl_names.specs.Outward.{all}
use Rattle.vl_signals.specs.Signals.{all_signals, all_numbers, signals_from, numbers_from}
use Rattle.vl_signals.proofs.signals.signals_of.Given as goal

abbrev pub invariant-loop-at : goal.invariant-loop-at
invariant-loop-at l = record {
  signals : l.signals ++ signals_from l.at (all (drop l.at l.scopes)) ≡ all_signals (all l.scopes);
  numbers : l.numbers ++ numbers_from (length l.signals) (all (drop l.at l.scopes)) ≡ all_numbers (all l.scopes);
}
