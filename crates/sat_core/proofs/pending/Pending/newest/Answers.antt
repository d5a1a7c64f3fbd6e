use Rattle.std.specs.BinaryHeap.{heap_items, heap_len}
use Rattle.sat_core.proofs.PendingLaws.{newest_says}
use Rattle.sat_core.proofs.pending.Pending.newest.Goals as goal

pub returns-clause-newest : goal.returns-clause-newest
returns-clause-newest c =
    let old = c.args.self.now in
    let e = c.pop.ensures in
    newest_says c.pop.result old.flags.items (heap_items old.places) (heap_items c.pop.new.self) (heap_len old.places) (heap_len c.pop.new.self) old.places.data.ok.0 old.ordered e.permutation e.heap_order e.none e.unchanged
