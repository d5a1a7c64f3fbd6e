use Rattle.std.proofs.Common.{◌≡◌, false, sym, ◌∙◌}
use Rattle.std.specs.BinaryHeap.{heap_items}
use Rattle.std.proofs.lemmas.List.{get_or_read}
use Rattle.sat_core.specs.Rests.{needs}
use Rattle.sat_core.proofs.PendingLaws.{added}
use Rattle.sat_core.proofs.pending.Pending.add.Goals as goal

pub returns-clause-waits : goal.returns-clause-waits
returns-clause-waits c top bound h below =
    let flags = c.args.self.now.flags.items in
    let x = c.args.variable in
    let off : needs flags x ≡ false = sym (get_or_read flags x c.index.result.now c.requires.room c.index.ensures false) ∙ c.if-index.false in
    added c.args.marks.now flags (heap_items c.args.self.now.places) (heap_items c.push.new.self) x c.place.result top bound h off c.requires.room c.place.ensures (below off c.place.result c.place.ensures) c.in_ok-push.ensures.permutation
