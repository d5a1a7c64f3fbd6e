use Rattle.std.proofs.Common.{Bool, true, false, set, subst, arith}
use Rattle.item_links.specs.Noted.{IsMarked}
use Rattle.item_links.proofs.NotedLaws.{flagged, piece_noted, unflagged}
use Rattle.item_links.proofs.drivers.note_piece.Goals as goal

pub returns-then-mark : goal.returns-then-mark
returns-then-mark c = λ lengths d is bits w.
    let p = c.args.piece in
    let span = c.span_of-span.result in
    let old = c.args.drivers.now in
    let was = c.args.twice.now in
    let P : Bool → Type 0 = λ k. IsMarked old c.mark.new.drivers span c.args.item k in
    let room = (c.requires.room c.if-piece.true).0 in
    let many = c.requires.many in
    piece_noted lengths c.args.starts.now is p bits span c.span_of-span.ensures.from c.span_of-span.ensures.to d c.args.item old c.mark.new.drivers was (set was p.signal true) true w
    (subst P c.if-mark.true c.mark.ensures) (flagged was p.signal (omega (arith, room, many)))

pub returns-else-mark : goal.returns-else-mark
returns-else-mark c = λ lengths d is bits w.
    let p = c.args.piece in
    let span = c.span_of-span.result in
    let old = c.args.drivers.now in
    let was = c.args.twice.now in
    let P : Bool → Type 0 = λ k. IsMarked old c.mark.new.drivers span c.args.item k in
    piece_noted lengths c.args.starts.now is p bits span c.span_of-span.ensures.from c.span_of-span.ensures.to d c.args.item old c.mark.new.drivers was was false w
    (subst P c.if-mark.false c.mark.ensures) (unflagged was p.signal)
