use Rattle.std.proofs.Common.{◌≡◌, ℕ, ◌<◌, length, get_or}
use Rattle.design_core.specs.Numbers.{first_number}
use Rattle.design_core.specs.Wellformed.{signal_lengths}
use Rattle.item_links.proofs.numbers.starts.Given as goal

abbrev pub invariant-loop-at : goal.invariant-loop-at
invariant-loop-at l = record {
  next : l.next ≡ first_number (signal_lengths l.signals) l.at;
  many : length l.all.items ≡ l.at;
  begins : (s : ℕ) → s < l.at → get_or l.all.items s 0 ≡ first_number (signal_lengths l.signals) s;
}
