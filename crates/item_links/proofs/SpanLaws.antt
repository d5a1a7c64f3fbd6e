-- Pieces of signals as spans of numbers.
use Rattle.std.proofs.Common.{◌≡◌, ℕ, zero, suc, ◌+◌, ◌-◌, ◌<◌, ◌≤◌, Bool, true, false, ◌&&◌, ◌||◌, List, [], ◌∷◌, ◌++◌, length, take, get_or, sum, inl, inr, refl, sym, ◌∙◌, ap, subst, nat_lt, nat_le, arith}
use Rattle.std.specs.Prelude.{◌==◌, All}
use Rattle.std.proofs.lemmas.Bool.{eqb-true, cases_eq}
use Rattle.std.proofs.lemmas.List.{get_or_push, get_or_append_left}
use Rattle.std.proofs.lemmas.Bool.Decides.{nat_tests}
use Rattle.std.proofs.lemmas.List.Elements.{All-push}
use Rattle.std.proofs.lemmas.List.Folds.{list_any_more}
use Rattle.design_core.specs.declared.place.BitRef.{BitRef}
use Rattle.design_core.specs.Core.{bit}
use Rattle.design_core.specs.Cells.{In}
use Rattle.design_core.specs.Numbers.{is_bit, number, first_number}
use Rattle.design_core.proofs.BoolLaws.{both_true, true_both, or_cases, or_left, or_right}
use Rattle.design_laws.proofs.NumberLaws.{number_below}
use Rattle.item_bits.specs.declared.pieces.Piece.{Piece}
use Rattle.item_bits.specs.Pieces.{has, some_has, Adds}
use Rattle.item_order.specs.declared.spans.Span.{Span}
use Rattle.item_order.specs.Spans.{holds, some_holds}
use Rattle.item_links.specs.Numbered.{AreStarts, AreBits, HasRoom, AreSpansOf}

pub below_is : (a b : ℕ) → nat_lt a b ≡ true → a < b
below_is a b h = grind (arith, nat_tests)

pub most_is : (a b : ℕ) → nat_le a b ≡ true → a ≤ b
most_is a b h = grind (arith, nat_tests)

pub is_below : (a b : ℕ) → a < b → nat_lt a b ≡ true
is_below a b h = grind (arith, nat_tests)

pub is_most : (a b : ℕ) → a ≤ b → nat_le a b ≡ true
is_most a b h = grind (arith, nat_tests)

pub same_number : (a b : ℕ) → a ≡ b → (a == b) ≡ true
same_number a b h = grind (arith, nat_tests)

-- one more start
pub more_starts : (lengths all now : List ℕ) (at next : ℕ) → now ≡ all ++ next ∷ [] → length all ≡ at → next ≡ first_number lengths at → ((s : ℕ) → s < at → get_or all s 0 ≡ first_number lengths s)
    → (s : ℕ) → s < at + 1 → get_or now s 0 ≡ first_number lengths s
more_starts lengths all now at next e m f h s l = elim (cases_eq s at) [
  | inl same ↦ ap (λ xs. get_or xs s 0) e ∙ get_or_push all next 0 s (m ∙ sym same) ∙ f ∙ ap (first_number lengths) (sym same)
  | inr ne ↦ (let k : s < at = grind (arith, ne, l) in ap (λ xs. get_or xs s 0) e ∙ get_or_append_left all (next ∷ []) 0 s (omega (arith, k, m)) ∙ h s k)
]

-- a signal with a bit is one of the list
pub signal_below : (lengths : List ℕ) (s k : ℕ) → k < get_or lengths s 0 → s < length lengths
signal_below [] s k h = absurd (omega (arith, h))
signal_below (v ∷ vs) zero k h = omega arith
signal_below (v ∷ vs) (suc s) k h = let r = signal_below vs s k h in omega (arith, r)

-- what it is to be a bit of a piece
pub record InPiece (p : Piece) (b : BitRef) : Type 0 where
  pub own : b.signal ≡ p.signal
  pub from_on : p.from ≤ b.bit
  pub below : b.bit < p.to

pub in_piece : (p : Piece) (b : BitRef) → has p b ≡ true → InPiece p b
in_piece p b h =
    let a = both_true (b.signal == p.signal) (nat_le p.from b.bit && nat_lt b.bit p.to) h in
    let c = both_true (nat_le p.from b.bit) (nat_lt b.bit p.to) a.1 in
    record { own = eqb-true b.signal p.signal a.0; from_on = most_is p.from b.bit c.0; below = below_is b.bit p.to c.1 }

pub piece_has : (p : Piece) (k : ℕ) → p.from ≤ k → k < p.to → has p (bit p.signal k) ≡ true
piece_has p k h l = true_both (p.signal == p.signal) (nat_le p.from k && nat_lt k p.to) (same_number p.signal p.signal refl) (true_both (nat_le p.from k) (nat_lt k p.to) (is_most p.from k h) (is_below k p.to l))

pub some_piece : (ps : List Piece) (p : Piece) (b : BitRef) → In p ps → has p b ≡ true → some_has ps b ≡ true
some_piece [] p b m h = elim m [ ]
some_piece (q ∷ qs) p b (inl e) h = or_left (has q b) (some_has qs b) (ap (λ (x : Piece). has x b) (sym e) ∙ h)
some_piece (q ∷ qs) p b (inr m) h = or_right (has q b) (some_has qs b) (some_piece qs p b m h)

module _ (lengths starts : List ℕ) (is : AreStarts lengths starts) where
  -- a bit's number, by the starts
  pub started : (b : BitRef) → is_bit lengths b ≡ true → number lengths b ≡ get_or starts b.signal 0 + b.bit
  started b h =
      let l = signal_below lengths b.signal b.bit (below_is b.bit (get_or lengths b.signal 0) h) in
      let e = is.begins b.signal (omega (arith, l)) in omega (arith, e)

  pub number_low : (b : BitRef) → is_bit lengths b ≡ true → number lengths b < sum lengths
  number_low b h = number_below lengths b.signal b.bit (below_is b.bit (get_or lengths b.signal 0) h)

  pub room : (p : Piece) → AreBits lengths (has p) → HasRoom starts (sum lengths) p
  room p h l =
      let last = p.to - 1 in
      let b = bit p.signal last in
      let own = h b (piece_has p last (omega (arith, l)) (omega (arith, l))) in
      let s = signal_below lengths p.signal last (below_is last (get_or lengths p.signal 0) own) in
      let low = number_low b own in
      let e = started b own in
      let m = is.many in
      (omega (arith, s, m), omega (arith, l, low, e))

  pub rooms : (ps : List Piece) → AreBits lengths (some_has ps) → (p : Piece) → In p ps → HasRoom starts (sum lengths) p
  rooms ps h p m = room p (λ b k. h b (some_piece ps p b m k))

  -- the span of a piece with bits has their numbers
  module _ (p : Piece) (h : AreBits lengths (has p)) (s : Span) (from : s.from ≡ get_or starts p.signal 0 + p.from) (to : s.to ≡ get_or starts p.signal 0 + p.to) where
    pub span_has : (b : BitRef) → has p b ≡ true → holds s (number lengths b) ≡ true
    span_has b k =
        let w = in_piece p b k in
        let e = started b (h b k) in
        let o = ap (λ n. get_or starts n 0) w.own in
        let f = w.from_on in let g = w.below in
        true_both (nat_le s.from (number lengths b)) (nat_lt (number lengths b) s.to)
        (is_most s.from (number lengths b) (omega (arith, from, e, o, f))) (is_below (number lengths b) s.to (omega (arith, to, e, o, g)))

    pub span_only : (n : ℕ) → holds s n ≡ true → (b : BitRef) × ((is_bit lengths b ≡ true) × (number lengths b ≡ n) × (has p b ≡ true))
    span_only n k =
        let a = both_true (nat_le s.from n) (nat_lt n s.to) k in
        let f = most_is s.from n a.0 in let g = below_is n s.to a.1 in
        let place = n - get_or starts p.signal 0 in
        let own = piece_has p place (omega (arith, from, f)) (omega (arith, to, from, f, g)) in
        let b = bit p.signal place in
        let e = started b (h b own) in
        (b, (h b own, omega (arith, e, from, f), own))

pub more_room : (starts : List ℕ) (few many : ℕ) (p : Piece) → few ≤ many → HasRoom starts few p → HasRoom starts many p
more_room starts few many p l h = λ k. let r = h k in let q = r.1 in (r.0, omega (arith, q, l))

pub or_none : (a : Bool) → (a || false) ≡ a
or_none true = refl
or_none false = refl

or_group : (a b c : Bool) → ((a || b) || c) ≡ (a || (b || c))
or_group true b c = refl
or_group false b c = refl

some_append : (xs ys : List Span) (n : ℕ) → some_holds (xs ++ ys) n ≡ (some_holds xs n || some_holds ys n)
some_append [] ys n = refl
some_append (x ∷ xs) ys n = ap (λ t. holds x n || t) (some_append xs ys n) ∙ sym (or_group (holds x n) (some_holds xs n) (some_holds ys n))

-- one more span
pub some_push : (old now : List Span) (s : Span) → now ≡ old ++ s ∷ [] → (n : ℕ) → some_holds now n ≡ (some_holds old n || holds s n)
some_push old now s e n = ap (λ ss. some_holds ss n) e ∙ some_append old (s ∷ []) n ∙ ap (λ t. some_holds old n || t) (or_none (holds s n))

pub below_push : (bits : ℕ) (old now : List Span) (s : Span) → now ≡ old ++ s ∷ [] → All (λ (x : Span). x.to ≤ bits) old → s.to ≤ bits → All (λ (x : Span). x.to ≤ bits) now
below_push bits old now s e h l = subst (All (λ (x : Span). x.to ≤ bits)) (sym e) (All-push (λ (x : Span). x.to ≤ bits) old s h l)

-- spans of no bits, of the same bits, and of more bits
pub no_spans : (lengths : List ℕ) → AreSpansOf lengths (λ b. false) []
no_spans lengths = record { has = λ b h. cc; only = λ n h. cc }

pub same_spans : (lengths : List ℕ) (f g : BitRef → Bool) (spans : List Span) → ((b : BitRef) → f b ≡ g b) → AreSpansOf lengths f spans → AreSpansOf lengths g spans
same_spans lengths f g spans e w = record {
  has = λ b h. w.has b (e b ∙ h);
  only = λ n h. let r = w.only n h in (r.0, (r.1.0, r.1.1, sym (e r.0) ∙ r.1.2));
}

pub more_spans : (lengths : List ℕ) (f g : BitRef → Bool) (old now : List Span) (t : ℕ → Bool) → AreSpansOf lengths f old → ((n : ℕ) → some_holds now n ≡ (some_holds old n || t n))
    → ((b : BitRef) → g b ≡ true → (is_bit lengths b ≡ true) × (t (number lengths b) ≡ true))
    → ((n : ℕ) → t n ≡ true → (b : BitRef) × ((is_bit lengths b ≡ true) × (number lengths b ≡ n) × (g b ≡ true)))
    → AreSpansOf lengths (λ b. f b || g b) now
more_spans lengths f g old now t w e k l = record {
  has = λ b h. elim (or_cases (f b) (g b) h) [
    | inl a ↦ (let r = w.has b a in (r.0, e (number lengths b) ∙ or_left (some_holds old (number lengths b)) (t (number lengths b)) r.1))
    | inr a ↦ (let r = k b a in (r.0, e (number lengths b) ∙ or_right (some_holds old (number lengths b)) (t (number lengths b)) r.1))
  ];
  only = λ n h. elim (or_cases (some_holds old n) (t n) (sym (e n) ∙ h)) [
    | inl a ↦ (let r = w.only n a in (r.0, (r.1.0, r.1.1, or_left (f r.0) (g r.0) r.1.2)))
    | inr a ↦ (let r = l n a in (r.0, (r.1.0, r.1.1, or_right (f r.0) (g r.0) r.1.2)))
  ];
}

-- the element at a place is one of the list
pub get_in : {X : Type 0} (xs : List X) (i : ℕ) (d : X) → i < length xs → In (get_or xs i d) xs
get_in [] i d l = absurd (omega (arith, l))
get_in (x ∷ xs) zero d l = inl refl
get_in (x ∷ xs) (suc i) d l = inr (get_in xs i d (omega (arith, l)))

-- pieces that were added to none have the bits that were added
pub added_all : (old new now : List Piece) (f : BitRef → Bool) → old ≡ [] → now ≡ new → Adds old new f → (b : BitRef) → some_has now b ≡ f b
added_all old new now f e is a b = ap (λ ps. some_has ps b) is ∙ a.has_also b ∙ ap (λ ps. some_has ps b || f b) e

-- the first pieces, and the next one
pub piece_more : (ps : List Piece) (k : ℕ) (d : Piece) (b : BitRef) → k < length ps → some_has (take (k + 1) ps) b ≡ (some_has (take k ps) b || has (get_or ps k d) b)
piece_more ps k d b l = list_any_more (λ (p : Piece). has p b) ps k d l

-- the bits of a piece of a list are bits
pub piece_bits : (lengths : List ℕ) (ps : List Piece) (k : ℕ) (d : Piece) → k < length ps → AreBits lengths (some_has ps) → AreBits lengths (has (get_or ps k d))
piece_bits lengths ps k d l bits b h = bits b (some_piece ps (get_or ps k d) b (get_in ps k d l) h)
