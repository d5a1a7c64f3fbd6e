use Rattle.std.proofs.Common.{◌+◌, ◌&&◌, ◌||◌, not, Bool, List, take, get_or, subst, ◌∙◌, ap, sym, arith}
use Rattle.std.proofs.lemmas.List.{take_all}
use Rattle.design_core.specs.declared.place.BitRef.{BitRef}
use Rattle.item_bits.specs.declared.pieces.Piece.{Piece}
use Rattle.item_bits.specs.Pieces.{has, some_has}
use Rattle.item_links.specs.Numbered.{AreSpansOf}
use Rattle.item_links.proofs.SpanLaws.{get_in, piece_bits, piece_more, same_spans}
use Rattle.item_links.proofs.ReadLaws.{others_more}
use Rattle.item_links.proofs.reading.others_of.Goals as goal

abbrev none : Piece
none = record { signal = 0; from = 0; to = 0 }

pub put_piece-requires-clause-room : goal.put_piece-requires-clause-room
put_piece-requires-clause-room c =
    let ps = c.args.pieces.now in
    c.requires.room (get_or ps c.loop-at.at none) (get_in ps c.loop-at.at none c.loop-at-test.true)

pub loop-at-preserved : goal.loop-at-preserved
loop-at-preserved c =
    let ps = c.args.pieces.now in
    let at = c.loop-at.at in
    let lt = c.loop-at-test.true in
    let p = get_or ps at none in
    let was = c.loop-at.invariant in
    record {
      spans = λ lengths own is bits o s.
          let f : BitRef → Bool = λ b. some_has (take at ps) b && not (own b) in
          same_spans lengths (λ b. f b || (has p b && not (own b))) (λ b. some_has (take (at + 1) ps) b && not (own b)) c.put_piece.new.all.items
          (λ b. others_more (some_has (take at ps) b) (has p b) (not (own b)) ∙ ap (λ x. x && not (own b)) (sym (piece_more ps at none b lt)))
          (c.in_ok-put_piece.ensures.spans lengths f own is (piece_bits lengths ps at none lt bits) o s (was.spans lengths own is bits o s));
      below = c.in_ok-put_piece.ensures.below was.below;
    }

pub returns-clause-spans : goal.returns-clause-spans
returns-clause-spans c = λ lengths own is bits o s.
    let P : List Piece → Type 0 = λ ps. AreSpansOf lengths (λ b. some_has ps b && not (own b)) c.loop-at.all.items in
    subst P (take_all c.loop-at.at c.args.pieces.now (omega (arith, c.loop-at-test.false))) (c.loop-at.invariant.spans lengths own is bits o s)
