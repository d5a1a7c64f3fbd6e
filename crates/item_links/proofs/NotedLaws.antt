-- Items are noted as drivers, piece by piece.
use Rattle.std.proofs.Common.{◌≡◌, ℕ, zero, suc, ◌+◌, ◌<◌, ◌≤◌, Bool, true, false, ◌&&◌, ◌||◌, ◌⊎◌, List, [], ◌∷◌, length, get_or, set, replicate, inl, inr, refl, sym, ◌∙◌, ap, subst, nat_lt, nat_le, Option, Some, None, arith}
use Rattle.std.specs.Prelude.{◌==◌}
use Rattle.std.proofs.lemmas.Bool.{eqb-true, cases_eq}
use Rattle.std.proofs.lemmas.Bool.Decides.{nat_tests}
use Rattle.std.proofs.lemmas.List.{get_or-set_same, get_or-set_other}
use Rattle.design_core.specs.declared.place.BitRef.{BitRef}
use Rattle.design_core.specs.Cells.{Cell}
use Rattle.design_core.specs.Numbers.{is_bit, number, idle}
use Rattle.design_core.proofs.BoolLaws.{both_true, true_both, or_cases, or_left, or_right, either, not_both}
use Rattle.design_laws.proofs.NumberLaws.{number_once}
use Rattle.item_bits.specs.declared.pieces.Piece.{Piece}
use Rattle.item_bits.specs.Pieces.{has}
use Rattle.item_order.specs.declared.spans.Span.{Span}
use Rattle.item_order.specs.Spans.{holds, driver_in}
use Rattle.item_links.specs.Numbered.{AreStarts, AreBits}
use Rattle.item_links.specs.Noted.{cell_in, IsDouble, IsFirstSignal, all_drives, first_drives, flag, AreNoted, IsMarked}
use Rattle.item_links.proofs.SpanLaws.{same_number, in_piece, span_has, span_only}

-- what is noted besides: this item for these bits
abbrev pub and_also : (ℕ → BitRef → Bool) → ℕ → (BitRef → Bool) → ℕ → BitRef → Bool
and_also d item f i b = d i b || ((i == item) && f b)

pub same_noted : (lengths : List ℕ) (d e : ℕ → BitRef → Bool) (drivers : List (Option ℕ)) (twice : List Bool) → ((i : ℕ) (b : BitRef) → d i b ≡ e i b) → AreNoted lengths d drivers twice → AreNoted lengths e drivers twice
same_noted lengths d e drivers twice h w = record {
  sound = λ n i k. let r = w.sound n i k in (r.0, (r.1.0, r.1.1, sym (h i r.0) ∙ r.1.2));
  complete = λ i b k. w.complete i b (h i b ∙ k);
  doubled = λ s k. let r = w.doubled s k in let x = r.1.1 in (r.0, (r.1.0, record { one = x.one; other = x.other; one_drives = sym (h x.one r.0) ∙ x.one_drives; other_drives = sym (h x.other r.0) ∙ x.other_drives; differ = x.differ }));
}

-- nothing is noted
no_driver : (n k : ℕ) → driver_in (replicate n None) k ≡ None
no_driver zero k = refl
no_driver (suc n) zero = refl
no_driver (suc n) (suc k) = no_driver n k

no_flag : (n s : ℕ) → flag (replicate n false) s ≡ false
no_flag zero s = refl
no_flag (suc n) zero = refl
no_flag (suc n) (suc s) = no_flag n s

pub none_noted : (lengths : List ℕ) (n m : ℕ) (d : ℕ → BitRef → Bool) → ((i : ℕ) (b : BitRef) → d i b ≡ false) → AreNoted lengths d (replicate n None) (replicate m false)
none_noted lengths n m d h = record {
  sound = λ k i e. let f = no_driver n k in cc;
  complete = λ i b k. not_both (d i b) k (h i b);
  doubled = λ s k. not_both (flag (replicate m false) s) k (no_flag m s);
}

-- the flags after a piece: that of its signal is set where a bit was another item's
pub record IsFlagged (old now : List Bool) (signal : ℕ) (clash : Bool) : Type 0 where
  pub stays : (s : ℕ) → flag old s ≡ true → flag now s ≡ true
  pub here : clash ≡ true → flag now signal ≡ true
  pub only : (s : ℕ) → flag now s ≡ true → (flag old s ≡ true) ⊎ ((s ≡ signal) × (clash ≡ true))

pub flagged : (old : List Bool) (signal : ℕ) → signal < length old → IsFlagged old (set old signal true) signal true
flagged old signal l = record {
  stays = λ s h. elim (cases_eq s signal) [
    | inl e ↦ ap (flag (set old signal true)) e ∙ get_or-set_same old signal true false l
    | inr ne ↦ get_or-set_other old signal s true false ne ∙ h
  ];
  here = λ h. get_or-set_same old signal true false l;
  only = λ s h. elim (cases_eq s signal) [
    | inl e ↦ inr (e, refl)
    | inr ne ↦ inl (sym (get_or-set_other old signal s true false ne) ∙ h)
  ];
}

pub unflagged : (old : List Bool) (signal : ℕ) → IsFlagged old old signal false
unflagged old signal = record { stays = λ s h. h; here = λ h. cc; only = λ s h. inl h }

module _ (lengths starts : List ℕ) (is : AreStarts lengths starts) (p : Piece) (bits : AreBits lengths (has p)) (span : Span)
    (from : span.from ≡ get_or starts p.signal 0 + p.from) (to : span.to ≡ get_or starts p.signal 0 + p.to)
    (d : ℕ → BitRef → Bool) (item : ℕ) (old now : List (Option ℕ)) (was later : List Bool) (clash : Bool)
    (w : AreNoted lengths d old was) (m : IsMarked old now span item clash) (f : IsFlagged was later p.signal clash) where
  abbrev e : ℕ → BitRef → Bool
  e = and_also d item (has p)

  old_drives : (i : ℕ) (b : BitRef) → d i b ≡ true → e i b ≡ true
  old_drives i b h = or_left (d i b) ((i == item) && has p b) h

  item_drives : (b : BitRef) → has p b ≡ true → e item b ≡ true
  item_drives b h = or_right (d item b) ((item == item) && has p b) (true_both (item == item) (has p b) (same_number item item refl) h)

  sound_also : (n i : ℕ) → (driver_in old n ≡ Some i) ⊎ ((i ≡ item) × (holds span n ≡ true)) → (b : BitRef) × ((is_bit lengths b ≡ true) × (number lengths b ≡ n) × (e i b ≡ true))
  sound_also n i (inl k) = let r = w.sound n i k in (r.0, (r.1.0, r.1.1, old_drives i r.0 r.1.2))
  sound_also n i (inr k) = let r = span_only lengths starts is p bits span from to n k.1 in (r.0, (r.1.0, r.1.1, ap (λ j. e j r.0) k.0 ∙ item_drives r.0 r.1.2))

  complete_old : (i : ℕ) (b : BitRef) → (driver_in old (number lengths b) ≡ Some i) ⊎ (flag was b.signal ≡ true) → (driver_in now (number lengths b) ≡ Some i) ⊎ (flag later b.signal ≡ true)
  complete_old i b (inl k) = inl (m.keeps (number lengths b) i k)
  complete_old i b (inr k) = inr (f.stays b.signal k)

  complete_item : (b : BitRef) → has p b ≡ true → (driver_in now (number lengths b) ≡ Some item) ⊎ (flag later b.signal ≡ true)
  complete_item b h = elim (either clash) [
    | inl c ↦ inr (ap (flag later) (in_piece p b h).own ∙ f.here c)
    | inr c ↦ inl (m.all c (number lengths b) (span_has lengths starts is p bits span from to b h))
  ]

  complete_also : (i : ℕ) (b : BitRef) → (d i b ≡ true) ⊎ (((i == item) && has p b) ≡ true) → (is_bit lengths b ≡ true) × ((driver_in now (number lengths b) ≡ Some i) ⊎ (flag later b.signal ≡ true))
  complete_also i b (inl h) = let r = w.complete i b h in (r.0, complete_old i b r.1)
  complete_also i b (inr h) =
      let a = both_true (i == item) (has p b) h in
      let same = eqb-true i item a.0 in
      (bits b a.1, subst (λ j. (driver_in now (number lengths b) ≡ Some j) ⊎ (flag later b.signal ≡ true)) (sym same) (complete_item b a.1))

  double_here : clash ≡ true → (b : BitRef) × ((b.signal ≡ p.signal) × IsDouble e b)
  double_here c =
      let t = m.taken c in
      let r = span_only lengths starts is p bits span from to t.place t.has in
      let q = w.sound t.place t.other t.driver in
      let same : q.0 ≡ r.0 = number_once lengths q.0 r.0 q.1.0 r.1.0 (q.1.1 ∙ sym r.1.1) in (
        r.0,
        (
          (in_piece p r.0 r.1.2).own,
          record {
            one = t.other;
            other = item;
            one_drives = old_drives t.other r.0 (ap (d t.other) (sym same) ∙ q.1.2);
            other_drives = item_drives r.0 r.1.2;
            differ = t.differs;
          },
        ),
      )

  doubled_also : (s : ℕ) → (flag was s ≡ true) ⊎ ((s ≡ p.signal) × (clash ≡ true)) → (b : BitRef) × ((b.signal ≡ s) × IsDouble e b)
  doubled_also s (inl h) =
      let r = w.doubled s h in
      let x = r.1.1 in
      (r.0, (r.1.0, record { one = x.one; other = x.other; one_drives = old_drives x.one r.0 x.one_drives; other_drives = old_drives x.other r.0 x.other_drives; differ = x.differ }))
  doubled_also s (inr h) = let r = double_here h.1 in (r.0, (r.1.0 ∙ sym h.0, r.1.1))

  pub piece_noted : AreNoted lengths (and_also d item (has p)) now later
  piece_noted = record {
    sound = λ n i k. sound_also n i (m.only n i k);
    complete = λ i b h. complete_also i b (or_cases (d i b) ((i == item) && has p b) h);
    doubled = λ s h. doubled_also s (f.only s h);
  }

and_false : (a : Bool) → (a && false) ≡ false
and_false true = refl
and_false false = refl

or_none : (a : Bool) → a ≡ (a || false)
or_none true = refl
or_none false = refl

-- a piece without bits changes nothing
empty_range : (a b n : ℕ) → n ≤ a → (nat_le a b && nat_lt b n) ≡ false
empty_range a b n h = grind (arith, nat_tests)

pub no_piece : (p : Piece) → p.to ≤ p.from → (b : BitRef) → has p b ≡ false
no_piece p h b = ap (λ x. (b.signal == p.signal) && x) (empty_range p.from b.bit p.to h) ∙ and_false (b.signal == p.signal)

pub piece_skipped : (lengths : List ℕ) (d : ℕ → BitRef → Bool) (item : ℕ) (p : Piece) (drivers : List (Option ℕ)) (twice : List Bool) → p.to ≤ p.from → AreNoted lengths d drivers twice
    → AreNoted lengths (and_also d item (has p)) drivers twice
piece_skipped lengths d item p drivers twice h w =
    same_noted lengths d (and_also d item (has p)) drivers twice (λ i b. or_none (d i b) ∙ ap (λ x. d i b || x) (sym (ap (λ x. (i == item) && x) (no_piece p h b) ∙ and_false (i == item)))) w

-- pieces one after the other
all_more : (a c x y : Bool) → ((a || (c && x)) || (c && y)) ≡ (a || (c && (x || y)))
all_more true true x y = refl
all_more true false x y = refl
all_more false true x y = refl
all_more false false x y = refl

pub next_piece : (lengths : List ℕ) (d : ℕ → BitRef → Bool) (item : ℕ) (f g h : BitRef → Bool) (drivers : List (Option ℕ)) (twice : List Bool) → ((b : BitRef) → h b ≡ (f b || g b))
    → AreNoted lengths (and_also (and_also d item f) item g) drivers twice → AreNoted lengths (and_also d item h) drivers twice
next_piece lengths d item f g h drivers twice e w =
    same_noted lengths (and_also (and_also d item f) item g) (and_also d item h) drivers twice (λ i b. all_more (d i b) (i == item) (f b) (g b) ∙ ap (λ x. d i b || ((i == item) && x)) (sym (e b))) w

pub no_pieces : (lengths : List ℕ) (d : ℕ → BitRef → Bool) (item : ℕ) (f : BitRef → Bool) (drivers : List (Option ℕ)) (twice : List Bool) → ((b : BitRef) → f b ≡ false)
    → AreNoted lengths d drivers twice → AreNoted lengths (and_also d item f) drivers twice
no_pieces lengths d item f drivers twice h w =
    same_noted lengths d (and_also d item f) drivers twice (λ i b. or_none (d i b) ∙ ap (λ x. d i b || x) (sym (ap (λ x. (i == item) && x) (h b) ∙ and_false (i == item)))) w

-- the first n items, and the next one
one_more : (i n : ℕ) (x y : Bool) → ((i == n) ≡ true → x ≡ y) → ((nat_lt i n && x) || ((i == n) && y)) ≡ (nat_lt i (n + 1) && x)
one_more i n x y h = grind (arith, nat_tests, h)

pub next_item : (lengths : List ℕ) (cells : List (Cell BitRef)) (n : ℕ) (f : BitRef → Bool) (drivers : List (Option ℕ)) (twice : List Bool) → ((b : BitRef) → f b ≡ (cell_in cells n).drives b)
    → AreNoted lengths (and_also (first_drives cells n) n f) drivers twice → AreNoted lengths (first_drives cells (n + 1)) drivers twice
next_item lengths cells n f drivers twice e w =
    same_noted lengths (and_also (first_drives cells n) n f) (first_drives cells (n + 1)) drivers twice
    (λ i b. one_more i n ((cell_in cells i).drives b) (f b) (λ h. ap (λ j. (cell_in cells j).drives b) (eqb-true i n h) ∙ sym (e b))) w

-- past the last cell nothing is driven
pub idle_past : (cells : List (Cell BitRef)) (i : ℕ) → length cells ≤ i → cell_in cells i ≡ idle
idle_past [] i h = refl
idle_past (c ∷ cs) zero h = absurd (omega arith)
idle_past (c ∷ cs) (suc i) h = idle_past cs i (omega arith)

past_false : (cells : List (Cell BitRef)) (n i : ℕ) (b : BitRef) → length cells ≤ n → nat_lt i n ≡ false → (cell_in cells i).drives b ≡ false
past_false cells n i b h k = ap (λ (c : Cell BitRef). c.drives b) (idle_past cells i (let l : n ≤ i = grind (arith, nat_tests) in omega (arith, h, l)))

first_all : (cells : List (Cell BitRef)) (n i : ℕ) (b : BitRef) → length cells ≤ n → first_drives cells n i b ≡ all_drives cells i b
first_all cells n i b h = elim (either (nat_lt i n)) [
  | inl l ↦ ap (λ x. x && (cell_in cells i).drives b) l
  | inr l ↦ ap (λ x. x && (cell_in cells i).drives b) l ∙ sym (past_false cells n i b h l)
]

pub all_noted : (lengths : List ℕ) (cells : List (Cell BitRef)) (n : ℕ) (drivers : List (Option ℕ)) (twice : List Bool) → length cells ≤ n
    → AreNoted lengths (first_drives cells n) drivers twice → AreNoted lengths (all_drives cells) drivers twice
all_noted lengths cells n drivers twice h w = same_noted lengths (first_drives cells n) (all_drives cells) drivers twice (λ i b. first_all cells n i b h) w

-- the first flag is that of the first signal with a bit of two
module _ (lengths : List ℕ) (d : ℕ → BitRef → Bool) (drivers : List (Option ℕ)) (twice : List Bool) (w : AreNoted lengths d drivers twice) where
  alone : (b : BitRef) (i j : ℕ) → flag twice b.signal ≡ false → d i b ≡ true → d j b ≡ true → i ≡ j
  alone b i j none h k =
      let a = (w.complete i b h).1 in
      let c = (w.complete j b k).1 in
      elim a [
        | inl x ↦ elim c [ inl y ↦ (let e : Some i ≡ Some j = sym x ∙ y in cc) | inr y ↦ not_both (flag twice b.signal) y none ]
        | inr x ↦ not_both (flag twice b.signal) x none
      ]

  pub first_double : (s : ℕ) → flag twice s ≡ true → ((t : ℕ) → t < s → flag twice t ≡ false) → IsFirstSignal (IsDouble d) s
  first_double s h before = let r = w.doubled s h in record {
    bit = r.0;
    is_own = r.1.0;
    has = r.1.1;
    none_before = λ b l x. x.differ (alone b x.one x.other (before b.signal l) x.one_drives x.other_drives);
  }

  -- without a flag each bit has the item that drives it as its driver
  pub drivers_are : ((s : ℕ) → flag twice s ≡ false) → (i : ℕ) (b : BitRef) → d i b ≡ true → (is_bit lengths b ≡ true) × (driver_in drivers (number lengths b) ≡ Some i)
  drivers_are none i b h = let r = w.complete i b h in (r.0, elim r.1 [ inl x ↦ x | inr x ↦ not_both (flag twice b.signal) x (none b.signal) ])
