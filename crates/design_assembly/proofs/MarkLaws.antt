-- Rows of marks, one of them changed.
use Rattle.std.proofs.Common.{◌≡◌, ℕ, zero, suc, ◌+◌, ◌<◌, ◌≤◌, Bool, true, false, List, [], ◌∷◌, ◌&&◌, ◌||◌, ◌⊎◌, map, take, drop, length, replicate, refl, sym, ap, ap₂, ◌∙◌, subst, inl, inr, arith, add-one, if◌then◌else◌, nat_lt, nat_le}
use Rattle.std.specs.Prelude.{◌==◌, slice_index_or, slice_set}
use Rattle.std.proofs.lemmas.List.{length-replicate}
use Rattle.std.proofs.lemmas.Bool.{eqb-true}
use Rattle.std.proofs.lemmas.Bool.Decides.{nat_tests}
use Rattle.std.proofs.lemmas.List.Folds.{list_any-append}
use Rattle.design_core.specs.declared.place.BitRef.{BitRef}
use Rattle.design_core.specs.declared.signals.Signal.{Signal}
use Rattle.design_core.specs.Core.{same_bit, set_bit, bit}
use Rattle.design_core.specs.Wellformed.{signal_lengths}
use Rattle.design_core.proofs.BoolLaws.{both_true, true_both, either, if_true, if_false}
use Rattle.design_names.specs.Alike.{Stands}
use Rattle.design_names.proofs.FirstLaws.{front_more, whole}
use Rattle.item_bits.specs.declared.pieces.Piece.{Piece}
use Rattle.item_bits.specs.Pieces.{has, some_has}
use Rattle.design_core.specs.declared.items.PowerUp.{PowerUp}
use Rattle.design_assembly.specs.Power.{is_given, given_after, value_of}
use Rattle.design_assembly.specs.Marks.{marked, with_mark, AreMarks}

zero_suc : (n : ℕ) → (0 == suc n) ≡ false
zero_suc n = grind (arith, nat_tests)

suc_zero : (n : ℕ) → (suc n == 0) ≡ false
suc_zero n = grind (arith, nat_tests)

suc_suc : (a b : ℕ) → (suc a == suc b) ≡ (a == b)
suc_suc a b = grind (arith, nat_tests)

below : (a b : ℕ) → nat_lt a b ≡ true → a < b
below a b h = grind (arith, nat_tests)

get_set : (row : List Bool) (k : ℕ) (v : Bool) (j : ℕ) → j < length row → slice_index_or (slice_set row k v) j false ≡ (if j == k then v else slice_index_or row j false)
get_set [] k v j h = absurd (omega arith)
get_set (x ∷ xs) zero v zero h = sym (if_true (0 == 0) v x refl)
get_set (x ∷ xs) zero v (suc j) h = sym (if_false (suc j == 0) v (slice_index_or xs j false) (suc_zero j))
get_set (x ∷ xs) (suc k) v zero h = sym (if_false (0 == suc k) v x (zero_suc k))
get_set (x ∷ xs) (suc k) v (suc j) h = get_set xs k v j (omega arith) ∙ ap (λ c. if c then v else slice_index_or xs j false) (sym (suc_suc j k))

set_length : (row : List Bool) (k : ℕ) (v : Bool) → length (slice_set row k v) ≡ length row
set_length [] k v = refl
set_length (x ∷ xs) zero v = refl
set_length (x ∷ xs) (suc k) v = ap suc (set_length xs k v)

lengths_same : (rows : List (List Bool)) (s k : ℕ) (v : Bool) → map length (slice_set rows s (slice_set (slice_index_or rows s []) k v)) ≡ map length rows
lengths_same [] s k v = refl
lengths_same (r ∷ rs) zero k v = ap (λ n. n ∷ map length rs) (set_length r k v)
lengths_same (r ∷ rs) (suc s) k v = ap (λ ns. length r ∷ ns) (lengths_same rs s k v)

both_if : (a b : Bool) (x y : Bool) → a ≡ true → (if a && b then x else y) ≡ (if b then x else y)
both_if true b x y h = refl
both_if false b x y h = cc

neither_if : (a b : Bool) (x y : Bool) → a ≡ false → (if a && b then x else y) ≡ y
neither_if true b x y h = cc
neither_if false b x y h = refl

get_mark : (rows : List (List Bool)) (s k : ℕ) (v : Bool) (t j : ℕ) → j < length (slice_index_or rows t [])
    → slice_index_or (slice_index_or (slice_set rows s (slice_set (slice_index_or rows s []) k v)) t []) j false ≡ (if (t == s) && (j == k) then v else slice_index_or (slice_index_or rows t []) j false)
get_mark [] s k v t j h = absurd (omega arith)
get_mark (r ∷ rs) zero k v zero j h = get_set r k v j h ∙ sym (both_if (0 == 0) (j == k) v (slice_index_or r j false) refl)
get_mark (r ∷ rs) zero k v (suc t) j h = sym (neither_if (suc t == 0) (j == k) v _ (suc_zero t))
get_mark (r ∷ rs) (suc s) k v zero j h = sym (neither_if (0 == suc s) (j == k) v _ (zero_suc s))
get_mark (r ∷ rs) (suc s) k v (suc t) j h =
    get_mark rs s k v t j h ∙ ap (λ c. if c && (j == k) then v else slice_index_or (slice_index_or rs t []) j false) (sym (suc_suc t s))

row_length : (rows : List (List Bool)) (t : ℕ) → slice_index_or (map length rows) t 0 ≡ length (slice_index_or rows t [])
row_length [] t = refl
row_length (r ∷ rs) zero = refl
row_length (r ∷ rs) (suc t) = row_length rs t

-- a changed mark
pub changed : (vs : List ℕ) (rows now : List (List Bool)) (f : BitRef → Bool) (b : BitRef) (v : Bool) → AreMarks vs rows f → now ≡ with_mark rows b v → AreMarks vs now (set_bit f b v)
changed vs rows now f b v w is = record {
  lengths = ap (map length) is ∙ lengths_same rows b.signal b.bit v ∙ w.lengths;
  marks = λ a h.
      let l : a.bit < length (slice_index_or rows a.signal []) = omega (arith, below _ _ h, ap (λ ns. slice_index_or ns a.signal 0) (sym w.lengths) ∙ row_length rows a.signal) in
      ap (λ r. marked r a) is ∙ get_mark rows b.signal b.bit v a.signal a.bit l ∙ ap (λ x. if same_bit a b then v else x) (w.marks a h);
}

pub same_marks : (vs : List ℕ) (rows : List (List Bool)) (f g : BitRef → Bool) → AreMarks vs rows f → ((b : BitRef) → f b ≡ g b) → AreMarks vs rows g
same_marks vs rows f g w h = record { lengths = w.lengths; marks = λ b k. w.marks b k ∙ h b }

-- the bits of a piece below a place
abbrev pub has_below : Piece → ℕ → BitRef → Bool
has_below p n b = (b.signal == p.signal) && (nat_le p.from b.bit && nat_lt b.bit n)

or_true : (x : Bool) → (x || true) ≡ true
or_true true = refl
or_true false = refl

or_false' : (x : Bool) → (x || false) ≡ x
or_false' true = refl
or_false' false = refl

is_le : (a b : ℕ) → a ≤ b → nat_le a b ≡ true
is_le a b h = grind (arith, nat_tests)

is_lt : (a b : ℕ) → a < b → nat_lt a b ≡ true
is_lt a b h = grind (arith, nat_tests)

first_false : (a b : Bool) → a ≡ false → (a && b) ≡ false
first_false true b h = cc
first_false false b h = refl

second_false : (a b : Bool) → b ≡ false → (a && b) ≡ false
second_false true b h = h
second_false false b h = refl

next : (a n : ℕ) → (a == n) ≡ false → nat_lt a n ≡ nat_lt a (n + 1)
next a n h = grind (arith, nat_tests)

empty_range : (a b n : ℕ) → n ≤ a → (nat_le a b && nat_lt b n) ≡ false
empty_range a b n h = grind (arith, nat_tests)

pub piece_more : (f : BitRef → Bool) (p : Piece) (n : ℕ) → p.from ≤ n → (b : BitRef) → set_bit (λ a. f a || has_below p n a) (bit p.signal n) true b ≡ (f b || has_below p (n + 1) b)
piece_more f p n h b = elim (either (b.signal == p.signal)) [
  | inl hit ↦ elim (either (b.bit == n)) [
    | inl at ↦ (let e = eqb-true b.bit n at in
        if_true (same_bit b (bit p.signal n)) true _ (true_both _ _ hit at)
        ∙ sym (ap (λ x. f b || x) (true_both (b.signal == p.signal) _ hit (true_both (nat_le p.from b.bit) (nat_lt b.bit (n + 1)) (is_le p.from b.bit (omega arith)) (is_lt b.bit (n + 1) (omega arith)))) ∙ or_true (f b)))
    | inr off ↦ if_false (same_bit b (bit p.signal n)) true _ (second_false (b.signal == p.signal) (b.bit == n) off)
        ∙ ap (λ x. f b || ((b.signal == p.signal) && (nat_le p.from b.bit && x))) (next b.bit n off)
  ]
  | inr miss ↦ if_false (same_bit b (bit p.signal n)) true _ (first_false (b.signal == p.signal) (b.bit == n) miss)
      ∙ ap (λ x. f b || x) (first_false (b.signal == p.signal) _ miss ∙ sym (first_false (b.signal == p.signal) (nat_le p.from b.bit && nat_lt b.bit (n + 1)) miss))
]

none_below : (p : Piece) (n : ℕ) (b : BitRef) → n ≤ p.from → has_below p n b ≡ false
none_below p n b h = second_false (b.signal == p.signal) (nat_le p.from b.bit && nat_lt b.bit n) (empty_range p.from b.bit n h)

pub piece_none : (f : BitRef → Bool) (p : Piece) (b : BitRef) → f b ≡ (f b || has_below p p.from b)
piece_none f p b = sym (ap (λ x. f b || x) (none_below p p.from b (omega arith)) ∙ or_false' (f b))

pub piece_all : (f : BitRef → Bool) (p : Piece) (n : ℕ) → p.to ≤ n → (n ≤ p.to) ⊎ (n ≡ p.from) → (b : BitRef) → (f b || has_below p n b) ≡ (f b || has p b)
piece_all f p n h (inl l) b = ap (λ k. f b || has_below p k b) (omega arith)
piece_all f p n h (inr e) b = ap (λ x. f b || x) (none_below p n b (omega arith) ∙ sym (none_below p p.to b (omega arith)))

pub pieces_none : (f : BitRef → Bool) (ps : List Piece) (b : BitRef) → f b ≡ (f b || some_has (take 0 ps) b)
pieces_none f [] b = sym (or_false' (f b))
pieces_none f (p ∷ ps) b = sym (or_false' (f b))

pub rows_changed : {A : Type 0} (f : A → List Bool) (xs : List A) (s k : ℕ) (v : Bool) (old new : A) → s < length xs → old ≡ slice_index_or xs s old → f new ≡ slice_set (f old) k v
    → map f (slice_set xs s new) ≡ slice_set (map f xs) s (slice_set (slice_index_or (map f xs) s []) k v)
rows_changed f [] s k v old new h e is = absurd (omega arith)
rows_changed f (x ∷ xs) zero k v old new h e is = ap (λ r. r ∷ map f xs) (is ∙ ap (λ o. slice_set (f o) k v) e)
rows_changed f (x ∷ xs) (suc s) k v old new h e is = ap (λ r. f x ∷ r) (rows_changed f xs s k v old new (omega arith) e is)

blank_lengths : (signals : List Signal) → map length (map (λ (x : Signal). replicate x.length false) signals) ≡ signal_lengths signals
blank_lengths [] = refl
blank_lengths (x ∷ xs) = ap₂ ◌∷◌ (length-replicate x.length false) (blank_lengths xs)

blank_row : (n k : ℕ) → slice_index_or (replicate n false) k false ≡ false
blank_row zero k = refl
blank_row (suc n) zero = refl
blank_row (suc n) (suc k) = blank_row n k

blank_mark : (signals : List Signal) (s k : ℕ) → slice_index_or (slice_index_or (map (λ (x : Signal). replicate x.length false) signals) s []) k false ≡ false
blank_mark [] s k = refl
blank_mark (x ∷ xs) zero k = blank_row x.length k
blank_mark (x ∷ xs) (suc s) k = blank_mark xs s k

pub blank_marks : (signals : List Signal) (rows : List (List Bool)) → rows ≡ map (λ (x : Signal). replicate x.length false) signals → AreMarks (signal_lengths signals) rows (λ b. false)
blank_marks signals rows e = record { lengths = ap (map length) e ∙ blank_lengths signals; marks = λ b h. ap (λ r. marked r b) e ∙ blank_mark signals b.signal b.bit }

or_assoc : (a b c : Bool) → ((a || b) || c) ≡ (a || (b || c))
or_assoc true b c = refl
or_assoc false b c = refl

pub pieces_step : (vs : List ℕ) (rows : List (List Bool)) (f : BitRef → Bool) (ps : List Piece) (n : ℕ) (p : Piece) → AreMarks vs rows (λ b. (f b || some_has (take n ps) b) || has p b) → Stands ps n p
    → AreMarks vs rows (λ b. f b || some_has (take (n + 1) ps) b)
pieces_step vs rows f ps n p w s = same_marks vs rows _ (λ b. f b || some_has (take (n + 1) ps) b) w (λ b.
    or_assoc (f b) (some_has (take n ps) b) (has p b)
    ∙ ap (λ x. f b || x) (ap (λ x. some_has (take n ps) b || x) (sym (or_false' (has p b))) ∙ sym (list_any-append (λ q. has q b) (take n ps) (p ∷ [])) ∙ ap (λ qs. some_has qs b) (sym (front_more ps n p s) ∙ ap (λ k. take k ps) (sym (add-one n)))))

pub pieces_end : (vs : List ℕ) (rows : List (List Bool)) (f : BitRef → Bool) (ps : List Piece) (n : ℕ) → AreMarks vs rows (λ b. f b || some_has (take n ps) b) → length ps ≤ n → AreMarks vs rows (λ b. f b || some_has ps b)
pieces_end vs rows f ps n w h = subst (λ qs. AreMarks vs rows (λ b. f b || some_has qs b)) (whole ps n h) w

if_or : (a b : Bool) → (if a then true else b) ≡ (b || a)
if_or true b = sym (or_true b)
if_or false b = sym (or_false' b)

given_more : (inits : List PowerUp) (n : ℕ) (p : PowerUp) (b : BitRef) → Stands inits n p → set_bit (is_given (take n inits)) p.bit true b ≡ is_given (take (n + 1) inits) b
given_more inits n p b s =
    if_or (same_bit b p.bit) (is_given (take n inits) b)
    ∙ ap (λ x. is_given (take n inits) b || x) (sym (or_false' (same_bit b p.bit)))
    ∙ sym (list_any-append (λ (q : PowerUp). same_bit b q.bit) (take n inits) (p ∷ []))
    ∙ ap (λ qs. is_given qs b) (sym (front_more inits n p s) ∙ ap (λ k. take k inits) (sym (add-one n)))

pub given_step : (vs : List ℕ) (rows now : List (List Bool)) (inits : List PowerUp) (n : ℕ) (p : PowerUp) → AreMarks vs rows (is_given (take n inits)) → now ≡ with_mark rows p.bit true → Stands inits n p → AreMarks vs now (is_given (take (n + 1) inits))
given_step vs rows now inits n p w e s =
    same_marks vs now (set_bit (is_given (take n inits)) p.bit true) (is_given (take (n + 1) inits)) (changed vs rows now (is_given (take n inits)) p.bit true w e) (λ b. given_more inits n p b s)

drop_more : (inits : List PowerUp) (n : ℕ) (p : PowerUp) → Stands inits n p → drop n inits ≡ p ∷ drop (suc n) inits
drop_more [] n p s = absurd (omega (arith, s.within))
drop_more (q ∷ qs) zero p s = ap (λ r. r ∷ qs) s.is_there
drop_more (q ∷ qs) (suc n) p s = drop_more qs n p (record { within = omega (arith, s.within); is_there = s.is_there })

pub ones_step : (vs : List ℕ) (rows now : List (List Bool)) (inits : List PowerUp) (n : ℕ) (p : PowerUp) → ((f : BitRef → Bool) × AreMarks vs rows f × (given_after (drop n inits) f ≡ value_of inits))
    → now ≡ with_mark rows p.bit p.value → Stands inits n p → (f : BitRef → Bool) × AreMarks vs now f × (given_after (drop (n + 1) inits) f ≡ value_of inits)
ones_step vs rows now inits n p w e s = (
  set_bit w.0 p.bit p.value,
  changed vs rows now w.0 p.bit p.value w.1 e,
  ap (λ k. given_after (drop k inits) (set_bit w.0 p.bit p.value)) (add-one n) ∙ sym (ap (λ ps. given_after ps w.0) (drop_more inits n p s)) ∙ w.2,
)
