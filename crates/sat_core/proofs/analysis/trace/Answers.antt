use Rattle.std.proofs.Common.{length}
use Rattle.std.specs.BinaryHeap.{heap_items}
use Rattle.sat_core.proofs.PendingLaws.{pending_none, all_below}
use Rattle.sat_core.proofs.analysis.trace.Goals as goal

pub walk_back-requires-clause-waits : goal.walk_back-requires-clause-waits
walk_back-requires-clause-waits c =
    let marks = c.args.marks.now in
    let flags = c.args.pending.now.flags.items in
    c.in_ok-add_variables.ensures.waits (length marks) (length marks)
    (pending_none marks flags (heap_items c.args.pending.now.places) c.requires.apart c.requires.clear)
    (all_below marks flags c.args.conflict.now)
