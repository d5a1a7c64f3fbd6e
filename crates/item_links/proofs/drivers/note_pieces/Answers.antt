use Rattle.std.proofs.Common.{◌+◌, List, length, take, get_or, subst, arith}
use Rattle.std.proofs.lemmas.List.{take_all}
use Rattle.item_bits.specs.declared.pieces.Piece.{Piece}
use Rattle.item_bits.specs.Pieces.{has, some_has}
use Rattle.item_links.specs.Noted.{AreNoted}
use Rattle.item_links.proofs.SpanLaws.{get_in, more_room, piece_bits, piece_more}
use Rattle.item_links.proofs.NotedLaws.{and_also, next_piece}
use Rattle.item_links.proofs.drivers.note_pieces.Goals as goal

abbrev none : Piece
none = record { signal = 0; from = 0; to = 0 }

pub note_piece-requires-clause-room : goal.note_piece-requires-clause-room
note_piece-requires-clause-room c =
    let ps = c.args.pieces.now in
    let p = get_or ps c.loop-at.at none in
    let same = c.loop-at.auto.drivers in
    more_room c.args.starts.now (length c.args.drivers.now) (length c.loop-at.drivers) p (omega (arith, same)) (c.requires.room p (get_in ps c.loop-at.at none c.loop-at-test.true))

pub loop-at-preserved : goal.loop-at-preserved
loop-at-preserved c = λ lengths d is bits w.
    let ps = c.args.pieces.now in
    let at = c.loop-at.at in
    let lt = c.loop-at-test.true in
    next_piece lengths d c.args.item (some_has (take at ps)) (has (get_or ps at none)) (some_has (take (at + 1) ps)) c.note_piece.new.drivers c.note_piece.new.twice (λ b. piece_more ps at none b lt)
    (c.note_piece.ensures lengths (and_also d c.args.item (some_has (take at ps))) is (piece_bits lengths ps at none lt bits) (c.loop-at.invariant lengths d is bits w))

pub returns : goal.returns
returns c = λ lengths d is bits w.
    let P : List Piece → Type 0 = λ ps. AreNoted lengths (and_also d c.args.item (some_has ps)) c.loop-at.drivers c.loop-at.twice in
    subst P (take_all c.loop-at.at c.args.pieces.now (omega (arith, c.loop-at-test.false))) (c.loop-at.invariant lengths d is bits w)
