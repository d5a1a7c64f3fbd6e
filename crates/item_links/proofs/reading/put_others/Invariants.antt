use Rattle.std.proofs.Common.{◌≤◌, ℕ}
use Rattle.item_links.specs.Numbered.{AreBelow}
use Rattle.item_links.proofs.ReadLaws.{IsPut}
use Rattle.item_links.proofs.reading.put_others.Given as goal

abbrev pub invariant-loop-at : goal.invariant-loop-at
invariant-loop-at l = record {
  put : IsPut l.drivers l.item l.fn.span.from l.from l.at l.initial.all.items l.all.items;
  below : (bits : ℕ) → l.fn.span.to ≤ bits → AreBelow bits l.initial.all.items → AreBelow bits l.all.items;
}
