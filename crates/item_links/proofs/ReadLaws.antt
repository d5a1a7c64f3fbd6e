-- What items read, without the bits that a combinational process drives itself.
use Rattle.std.proofs.Common.{◌≡◌, ℕ, ◌+◌, ◌<◌, ◌≤◌, ◌^◌, Bool, true, false, not, ◌&&◌, ◌||◌, List, length, get_or, set, sum, inl, inr, refl, sym, ◌∙◌, ap, subst, nat_lt, nat_le, Option, Some, None, arith}
use Rattle.std.specs.Prelude.{◌==◌}
use Rattle.std.proofs.lemmas.Bool.{eqb-true, cases_eq}
use Rattle.std.proofs.lemmas.Bool.Decides.{nat_tests}
use Rattle.std.proofs.lemmas.List.{get_or-set_same, get_or-set_other, length-set}
use Rattle.design_core.specs.declared.place.BitRef.{BitRef}
use Rattle.design_core.specs.declared.items.Item.{Item}
use Rattle.design_core.specs.declared.items.Item.TheVariants as kinds
use Rattle.design_core.specs.declared.items.DReset.{DReset}
use Rattle.design_core.specs.declared.tree.DStmt.{DStmt}
use Rattle.design_core.specs.Core.{same_bit}
use Rattle.design_core.specs.Items.{CoreItem, assign, comb, clocked, reset_by, cell_of}
use Rattle.design_core.specs.Parts.{item_of, clocked_of}
use Rattle.design_core.specs.Numbers.{is_bit, number}
use Rattle.design_core.proofs.BoolLaws.{both_true, true_both, or_cases, either, not_both}
use Rattle.design_laws.specs.Kinds.{IsOverBits}
use Rattle.design_laws.proofs.NumberLaws.{number_once, number_below}
use Rattle.item_bits.specs.declared.pieces.Piece.{Piece}
use Rattle.item_bits.specs.Pieces.{has}
use Rattle.item_bits.specs.Items.{asked_within, HasLowReset}
use Rattle.item_order.specs.declared.spans.Span.{Span}
use Rattle.item_order.specs.Spans.{holds, some_holds, driver_in}
use Rattle.item_links.specs.Numbered.{AreStarts, AreBits, AreSpansOf}
use Rattle.item_links.specs.Noted.{AreNoted}
use Rattle.item_links.specs.Owned.{is_comb, is_same, owns, AreStamped, IsOwned}
use Rattle.item_links.proofs.SpanLaws.{below_is, same_number, in_piece, span_has, span_only, more_spans, same_spans}
use Rattle.item_links.proofs.NotedLaws.{no_piece}

-- of a combinational process what it asks for without what it drives, of any other item all of it
pub reads_comb : (size : ℕ → ℕ) (i : Item) → is_comb i ≡ true → (b : BitRef) → (asked_within (item_of size i) b && not ((cell_of (item_of size i)).drives b)) ≡ (cell_of (item_of size i)).reads b
reads_comb size (kinds.Assign scope weight l e) h b = cc
reads_comb size (kinds.Comb scope weight body) h b = refl
reads_comb size (kinds.Clocked scope weight reset body) h b = cc

reads_clocked : (size : ℕ → ℕ) (reset : Option DReset) (body : DStmt) (b : BitRef) → asked_within (clocked_of size reset body) b ≡ (cell_of (clocked_of size reset body)).reads b
reads_clocked size None body b = refl
reads_clocked size (Some r) body b = refl

pub reads_other : (size : ℕ → ℕ) (i : Item) → is_comb i ≡ false → (b : BitRef) → asked_within (item_of size i) b ≡ (cell_of (item_of size i)).reads b
reads_other size (kinds.Assign scope weight l e) h b = refl
reads_other size (kinds.Comb scope weight body) h b = cc
reads_other size (kinds.Clocked scope weight reset body) h b = reads_clocked size reset body b

-- what a cell over bits asks for are bits
pub asked_bits : (vs : List ℕ) (x : CoreItem) → IsOverBits vs (cell_of x) → AreBits vs (asked_within x)
asked_bits vs (assign l e) w b h = w.reads_bits b h
asked_bits vs (comb body) w b h = elim (either ((cell_of (comb body)).drives b)) [
  | inl d ↦ w.drives_bits b d
  | inr d ↦ w.reads_bits b (true_both (asked_within (comb body) b) (not ((cell_of (comb body)).drives b)) h (ap not d))
]
asked_bits vs (clocked body) w b h = cc
asked_bits vs (reset_by r asserted branch body) w b h = w.reads_bits b h

same_self : (b : BitRef) → same_bit b b ≡ true
same_self b = true_both (b.signal == b.signal) (b.bit == b.bit) (same_number b.signal b.signal refl) (same_number b.bit b.bit refl)

-- and its reset bit has a small place
pub low_reset : (vs : List ℕ) (x : CoreItem) → IsOverBits vs (cell_of x) → sum vs < 2 ^ 31 → HasLowReset x
low_reset vs (assign l e) w few = tt
low_reset vs (comb body) w few = tt
low_reset vs (clocked body) w few = tt
low_reset vs (reset_by r asserted branch body) w few =
    let h = w.reads_bits r (same_self r) in
    let n = number_below vs r.signal r.bit (below_is r.bit (get_or vs r.signal 0) h) in omega (arith, n, few)

-- whether an item is noted as a bit's driver
same_is : (o : Option ℕ) (i : ℕ) → is_same o i ≡ true → o ≡ Some i
same_is None i h = cc
same_is (Some j) i h = ap Some (eqb-true j i h)

is_same_as : (o : Option ℕ) (i : ℕ) → o ≡ Some i → is_same o i ≡ true
is_same_as o i e = ap (λ x. is_same x i) e ∙ same_number i i refl

-- noted are exactly the bits that an item drives
pub owned : (lengths : List ℕ) (d : ℕ → BitRef → Bool) (drivers : List (Option ℕ)) (twice : List Bool) → AreNoted lengths d drivers twice
    → ((i : ℕ) (b : BitRef) → d i b ≡ true → (is_bit lengths b ≡ true) × (driver_in drivers (number lengths b) ≡ Some i)) → (i : ℕ) → IsOwned lengths drivers i (d i)
owned lengths d drivers twice w exact i b h = elim (either (d i b)) [
  | inl k ↦ is_same_as (driver_in drivers (number lengths b)) i (exact i b k).1 ∙ sym k
  | inr k ↦ elim (either (owns drivers i (number lengths b))) [
    | inl o ↦ (let r = w.sound (number lengths b) i (same_is (driver_in drivers (number lengths b)) i o) in
        not_both (d i b) (ap (d i) (number_once lengths b r.0 h r.1.0 (sym r.1.1)) ∙ r.1.2) k)
    | inr o ↦ o ∙ sym k
  ]
]

-- one more place of a span, which the item owns or not; `from` is behind the last owned one
pub record IsPut (drivers : List (Option ℕ)) (item start from to : ℕ) (old now : List Span) : Type 0 where
  pub started : start ≤ from
  pub from_on : from ≤ to
  pub put : (n : ℕ) → some_holds now n ≡ (some_holds old n || ((nat_le start n && nat_lt n from) && not (owns drivers item n)))
  pub free : (n : ℕ) → from ≤ n → n < to → owns drivers item n ≡ false

or_none : (a : Bool) → a ≡ (a || false)
or_none true = refl
or_none false = refl

empty_range : (a b : ℕ) → (nat_le a b && nat_lt b a) ≡ false
empty_range a b = grind (arith, nat_tests)

pub put_begins : (drivers : List (Option ℕ)) (item start : ℕ) (old : List Span) → IsPut drivers item start start start old old
put_begins drivers item start old = record {
  started = omega arith;
  from_on = omega arith;
  put = λ n. or_none (some_holds old n) ∙ ap (λ x. some_holds old n || (x && not (owns drivers item n))) (sym (empty_range start n));
  free = λ n h l. absurd (omega (arith, h, l));
}

pub put_passes : (drivers : List (Option ℕ)) (item start from to : ℕ) (old now : List Span) → owns drivers item to ≡ false → IsPut drivers item start from to old now → IsPut drivers item start from (to + 1) old now
put_passes drivers item start from to old now h w = record {
  started = w.started;
  from_on = let l = w.from_on in omega (arith, l);
  put = w.put;
  free = λ n k l. elim (cases_eq n to) [ inl e ↦ ap (owns drivers item) e ∙ h | inr ne ↦ w.free n k (let q : n < to = grind (arith, ne, l) in q) ];
}

-- up to a place: the span from `from` on is put
ranges : (start from to n : ℕ) (s o : Bool) → start ≤ from → from ≤ to → ((from ≤ n) → (n < to) → o ≡ false)
    → ((s || ((nat_le start n && nat_lt n from) && not o)) || (nat_le from n && nat_lt n to)) ≡ (s || ((nat_le start n && nat_lt n to) && not o))
ranges start from to n s true h k f = grind (arith, nat_tests, f)
ranges start from to n s false h k f = grind (arith, nat_tests)

pub put_all : (drivers : List (Option ℕ)) (item start from to : ℕ) (old mid now : List Span) → IsPut drivers item start from to old mid → ((n : ℕ) → some_holds now n ≡ (some_holds mid n || (nat_le from n && nat_lt n to)))
    → (n : ℕ) → some_holds now n ≡ (some_holds old n || ((nat_le start n && nat_lt n to) && not (owns drivers item n)))
put_all drivers item start from to old mid now w h n =
    h n ∙ ap (λ x. x || (nat_le from n && nat_lt n to)) (w.put n) ∙ ranges start from to n (some_holds old n) (owns drivers item n) w.started w.from_on (w.free n)

widens : (start to n : ℕ) (o : Bool) → ((n ≡ to) → o ≡ true) → ((nat_le start n && nat_lt n to) && not o) ≡ ((nat_le start n && nat_lt n (to + 1)) && not o)
widens start to n true f = grind (arith, nat_tests)
widens start to n false f = grind (arith, nat_tests, f)

pub put_cuts : (drivers : List (Option ℕ)) (item start from to : ℕ) (old mid now : List Span) → owns drivers item to ≡ true → IsPut drivers item start from to old mid
    → ((n : ℕ) → some_holds now n ≡ (some_holds mid n || (nat_le from n && nat_lt n to))) → IsPut drivers item start (to + 1) (to + 1) old now
put_cuts drivers item start from to old mid now o w h = record {
  started = let l = w.started in let k = w.from_on in omega (arith, l, k);
  from_on = omega arith;
  put = λ n. put_all drivers item start from to old mid now w h n
      ∙ ap (λ x. some_holds old n || x) (widens start to n (owns drivers item n) (λ e. ap (owns drivers item) e ∙ o));
  free = λ n k l. absurd (omega (arith, k, l));
}

-- the bits of a piece without the item's own, as spans
module _ (lengths starts : List ℕ) (is : AreStarts lengths starts) (p : Piece) (bits : AreBits lengths (has p)) (span : Span)
    (from : span.from ≡ get_or starts p.signal 0 + p.from) (to : span.to ≡ get_or starts p.signal 0 + p.to)
    (drivers : List (Option ℕ)) (item : ℕ) (own : BitRef → Bool) (f : BitRef → Bool) (old now : List Span) (w : AreSpansOf lengths f old) where
  pub others_put : IsOwned lengths drivers item own → ((n : ℕ) → some_holds now n ≡ (some_holds old n || (holds span n && not (owns drivers item n))))
      → AreSpansOf lengths (λ b. f b || (has p b && not (own b))) now
  others_put o e = more_spans lengths f (λ b. has p b && not (own b)) old now (λ n. holds span n && not (owns drivers item n)) w e
      (λ b h. let a = both_true (has p b) (not (own b)) h in let i = bits b a.0 in
      (i, true_both (holds span (number lengths b)) (not (owns drivers item (number lengths b))) (span_has lengths starts is p bits span from to b a.0) (ap not (o b i) ∙ a.1)))
      (λ n h. let a = both_true (holds span n) (not (owns drivers item n)) h in let r = span_only lengths starts is p bits span from to n a.0 in
      (r.0, (r.1.0, r.1.1, true_both (has p r.0) (not (own r.0)) r.1.2 (ap not (sym (o r.0 r.1.0) ∙ ap (owns drivers item) r.1.1) ∙ a.1))))

  -- a piece of a signal without the item's stamp has none of its own bits
  pub whole_put : ((b : BitRef) → has p b ≡ true → own b ≡ false) → ((n : ℕ) → some_holds now n ≡ (some_holds old n || holds span n))
      → AreSpansOf lengths (λ b. f b || (has p b && not (own b))) now
  whole_put none e = more_spans lengths f (λ b. has p b && not (own b)) old now (holds span) w e
      (λ b h. let a = both_true (has p b) (not (own b)) h in (bits b a.0, span_has lengths starts is p bits span from to b a.0))
      (λ n h. let r = span_only lengths starts is p bits span from to n h in (r.0, (r.1.0, r.1.1, true_both (has p r.0) (not (own r.0)) r.1.2 (ap not (none r.0 r.1.2)))))

-- a piece without bits
pub none_put : (lengths : List ℕ) (p : Piece) (f g : BitRef → Bool) (old : List Span) → p.to ≤ p.from → AreSpansOf lengths f old → AreSpansOf lengths (λ b. f b || (has p b && g b)) old
none_put lengths p f g old h w = same_spans lengths f (λ b. f b || (has p b && g b)) old (λ b. or_none (f b) ∙ ap (λ x. f b || (x && g b)) (sym (no_piece p h b))) w

pub unstamped : (stamps : List ℕ) (lengths : List ℕ) (own : BitRef → Bool) (item : ℕ) (p : Piece) → p.signal < length stamps → AreStamped stamps own item → (get_or stamps p.signal 0 ≡ item → ⊥)
    → (b : BitRef) → has p b ≡ true → own b ≡ false
unstamped stamps lengths own item p l s ne b h = elim (either (own b)) [
  | inl o ↦ (let e = (in_piece p b h).own in absurd (ne (sym (ap (λ k. get_or stamps k 0) e) ∙ s b o (subst (λ k. k < length stamps) (sym e) l))))
  | inr o ↦ o
]

-- stamps, piece by piece
pub stamp_more : (stamps : List ℕ) (f g : BitRef → Bool) (item : ℕ) (p : Piece) → ((b : BitRef) → g b ≡ (f b || has p b)) → p.signal < length stamps → AreStamped stamps f item → AreStamped (set stamps p.signal item) g item
stamp_more stamps f g item p e l s b h k = elim (cases_eq b.signal p.signal) [
  | inl same ↦ ap (λ j. get_or (set stamps p.signal item) j 0) same ∙ get_or-set_same stamps p.signal item 0 l
  | inr ne ↦ elim (or_cases (f b) (has p b) (sym (e b) ∙ h)) [
    | inl a ↦ get_or-set_other stamps p.signal b.signal item 0 ne ∙ s b a (let q = length-set stamps p.signal item in omega (arith, k, q))
    | inr a ↦ absurd (ne (in_piece p b a).own)
  ]
]

pub stamp_past : (stamps : List ℕ) (f g : BitRef → Bool) (item : ℕ) (p : Piece) → ((b : BitRef) → g b ≡ (f b || has p b)) → length stamps ≤ p.signal → AreStamped stamps f item → AreStamped stamps g item
stamp_past stamps f g item p e l s b h k = elim (or_cases (f b) (has p b) (sym (e b) ∙ h)) [
  | inl a ↦ s b a k
  | inr a ↦ (let q = (in_piece p b a).own in absurd (omega (arith, l, k, q)))
]

-- the first pieces and the next one, without the bits that the item drives itself
pub others_more : (x y n : Bool) → ((x && n) || (y && n)) ≡ ((x || y) && n)
others_more true true true = refl
others_more true true false = refl
others_more true false true = refl
others_more true false false = refl
others_more false true true = refl
others_more false true false = refl
others_more false false true = refl
others_more false false false = refl
