use Rattle.std.proofs.Common.{◌≡◌, ◌+◌, ◌-◌, ◌^◌, ◌||◌, ◌∷◌, ◌++◌, [], List, take, get_or, sym, ◌∙◌, ap, subst, arith}
use Rattle.std.proofs.lemmas.List.{take_all}
use Rattle.item_bits.specs.declared.pieces.Piece.{Piece}
use Rattle.item_bits.specs.Pieces.{has, some_has}
use Rattle.item_order.specs.declared.spans.Span.{Span}
use Rattle.item_order.specs.Spans.{holds}
use Rattle.item_links.specs.Numbered.{AreBelow, AreSpansOf}
use Rattle.item_links.proofs.SpanLaws.{below_push, get_in, more_room, more_spans, or_none, piece_bits, piece_more, same_spans, some_push, span_has, span_only}
use Rattle.item_links.proofs.NotedLaws.{no_piece}
use Rattle.item_links.proofs.reading.spans_of.Goals as goal
use Rattle.item_links.proofs.reading.spans_of.Goals.{then-piece+in_ok-push, else-piece}

abbrev none : Piece
none = record { signal = 0; from = 0; to = 0 }

pub span_of-requires-clause-room : goal.span_of-requires-clause-room
span_of-requires-clause-room c =
    let ps = c.args.pieces.now in
    let p = get_or ps c.loop-at.at none in
    more_room c.args.starts.now (2 ^ 31 - 1) (2 ^ 31) p (omega arith) (c.requires.room p (get_in ps c.loop-at.at none c.loop-at-test.true))

pub loop-at-preserved : goal.loop-at-preserved
loop-at-preserved c =
    let ps = c.args.pieces.now in
    let at = c.loop-at.at in
    let lt = c.loop-at-test.true in
    let p = get_or ps at none in
    let starts = c.args.starts.now in
    let old = c.loop-at.all.items in
    let was = c.loop-at.invariant in
    elim c.if-piece.branch [
      | then-piece+in_ok-push w ↦ (
          let span = w.span_of.result in
          let new = w.push.new.self.items in
          let done : new ≡ old ++ span ∷ [] = (w.in_ok-push.ensures {u = tt}).items in
          let all_is : c.if-piece.all.items ≡ new = ap (λ v. v.items) w.all-is in
          let some = w.if-piece.true in
          record {
            spans = λ lengths is bits.
                let own = piece_bits lengths ps at none lt bits in
                let P : List Span → Type 0 = λ ss. AreSpansOf lengths (some_has (take (at + 1) ps)) ss in
                subst P (sym all_is) (same_spans lengths (λ b. some_has (take at ps) b || has p b) (some_has (take (at + 1) ps)) new (λ b. sym (piece_more ps at none b lt))
                (more_spans lengths (some_has (take at ps)) (has p) old new (holds span) (was.spans lengths is bits) (λ n. some_push old new span done n)
                (λ b h. (own b h, span_has lengths starts is p own span w.span_of.ensures.from w.span_of.ensures.to b h))
                (λ n h. span_only lengths starts is p own span w.span_of.ensures.from w.span_of.ensures.to n h)));
            below = λ bits room.
                let q = (room p (get_in ps at none lt) some).1 in
                let to = w.span_of.ensures.to in
                subst (AreBelow bits) (sym all_is) (below_push bits old new span done (was.below bits room) (omega (arith, q, to)));
          })
      | else-piece w ↦ (
          let all_is : c.if-piece.all.items ≡ old = ap (λ v. v.items) w.all-is in
          let none_there = w.if-piece.false in
          record {
            spans = λ lengths is bits.
                let P : List Span → Type 0 = λ ss. AreSpansOf lengths (some_has (take (at + 1) ps)) ss in
                subst P (sym all_is) (same_spans lengths (some_has (take at ps)) (some_has (take (at + 1) ps)) old
                (λ b. sym (piece_more ps at none b lt ∙ ap (λ x. some_has (take at ps) b || x) (no_piece p none_there b) ∙ or_none (some_has (take at ps) b))) (was.spans lengths is bits));
            below = λ bits room. subst (AreBelow bits) (sym all_is) (was.below bits room);
          })
    ]

pub returns-clause-spans : goal.returns-clause-spans
returns-clause-spans c = λ lengths is bits.
    let P : List Piece → Type 0 = λ ps. AreSpansOf lengths (some_has ps) c.loop-at.all.items in
    subst P (take_all c.loop-at.at c.args.pieces.now (omega (arith, c.loop-at-test.false))) (c.loop-at.invariant.spans lengths is bits)
