-- When signals and their bits print apart.
use Rattle.std.proofs.Common.{◌≡◌, ℕ, zero, suc, ◌+◌, ◌<◌, ◌≤◌, Bool, true, false, not, List, [], ◌∷◌, ◌++◌, ◌&&◌, ◌⊎◌, refl, sym, ap, ◌∙◌, subst, inl, inr, arith}
use Rattle.std.specs.Prelude.{◌==◌}
use Rattle.std.specs.List.{list_all}
use Rattle.std.proofs.lemmas.Bool.{eqb-true}
use Rattle.std.proofs.lemmas.List.{append_assoc}
use Rattle.design_core.specs.declared.signals.Signal.{Signal}
use Rattle.design_core.specs.Cells.{In}
use Rattle.design_core.specs.Wellformed.{print_apart, all_distinct, texts_from, bit_texts, bit_text, bit_index, is_bound, span_of, index_text}
use Rattle.design_core.proofs.BoolLaws.{both_true, true_both, if_true, if_false, either, not_both}
use Rattle.design_names.specs.Alike.{has, paths, is_spanned, is_bit_of}
use Rattle.design_names.specs.Brackets.{in_brackets}
use Rattle.design_names.proofs.DistinctLaws.{has_in, in_has, in_append, in_left, in_right, distinct_append, shared, head_alone, tail_distinct, none, false_not, left_false, right_false}
use Rattle.design_names.proofs.IndexLaws.{brackets_path, brackets_index, index_one, index_apart, index_between, between_bound}

pub in_texts : (x : Signal) (k n : ℕ) (t : List ℕ) → In t (texts_from x k n) → (i : ℕ) × (k ≤ i) × (i < k + n) × (t ≡ bit_text x i)
in_texts x k zero t m = elim m [ ]
in_texts x k (suc n) t (inl e) = (k, omega arith, omega arith, e)
in_texts x k (suc n) t (inr m) = let r = in_texts x (suc k) n t m in (r.0, omega (arith, r.1), omega (arith, r.2), r.3)

pub at_or_past : (k i : ℕ) → k ≤ i → (i ≡ k) ⊎ (suc k ≤ i)
at_or_past zero zero h = inl refl
at_or_past zero (suc i) h = inr (omega arith)
at_or_past (suc k) zero h = absurd (omega arith)
at_or_past (suc k) (suc i) h = elim (at_or_past k i (omega arith)) [ inl e ↦ inl (ap suc e) | inr p ↦ inr (omega (arith, p)) ]

pub texts_in : (x : Signal) (k n i : ℕ) → k ≤ i → i < k + n → In (bit_text x i) (texts_from x k n)
texts_in x k zero i h l = absurd (omega arith)
texts_in x k (suc n) i h l = elim (at_or_past k i h) [ inl e ↦ inl (ap (bit_text x) e) | inr p ↦ inr (texts_in x (suc k) n i p (omega arith)) ]

-- what a signal with a range keeps
pub record IsRanged (x : Signal) : Type 0 where
  pub ranged : x.ranged ≡ true
  pub high_small : is_bound x.high ≡ true
  pub low_small : is_bound x.low ≡ true
  pub spans : span_of x.high x.low ≡ x.length

pub ranged_of : (x : Signal) → is_spanned x ≡ true → x.ranged ≡ true → IsRanged x
ranged_of x h r =
    let k = sym (if_true x.ranged (is_bound x.high && is_bound x.low && (span_of x.high x.low == x.length)) (x.length == 1) r) ∙ h in
    let a = both_true (is_bound x.high && is_bound x.low) (span_of x.high x.low == x.length) k in
    let b = both_true (is_bound x.high) (is_bound x.low) a.0 in
    record { ranged = r; high_small = b.0; low_small = b.1; spans = eqb-true (span_of x.high x.low) x.length a.1 }

pub single_of : (x : Signal) → is_spanned x ≡ true → x.ranged ≡ false → x.length ≡ 1
single_of x h r = eqb-true x.length 1 (sym (if_false x.ranged (is_bound x.high && is_bound x.low && (span_of x.high x.low == x.length)) (x.length == 1) r) ∙ h)

pub text_ranged : (x : Signal) (k : ℕ) → x.ranged ≡ true → bit_text x k ≡ in_brackets x.path (index_text (bit_index x k))
text_ranged x k r = if_true x.ranged _ _ r

pub text_single : (x : Signal) (k : ℕ) → x.ranged ≡ false → bit_text x k ≡ x.path
text_single x k r = if_false x.ranged _ _ r

pub bit_bound : (x : Signal) (k : ℕ) → IsRanged x → k < x.length → is_bound (bit_index x k) ≡ true
bit_bound x k w l = between_bound x.high x.low (bit_index x k) w.high_small w.low_small (index_between x.high x.low x.length k w.spans l)

text_one : (x : Signal) (i j : ℕ) → IsRanged x → i < x.length → j < x.length → bit_text x i ≡ bit_text x j → i ≡ j
text_one x i j w l m e =
    let f = sym (text_ranged x i w.ranged) ∙ e ∙ text_ranged x j w.ranged in
    index_apart x.high x.low i j (index_one (bit_index x i) (bit_index x j) (bit_bound x i w l) (bit_bound x j w m) (brackets_index x.path x.path (bit_index x i) (bit_index x j) f))

ranged_distinct : (x : Signal) (k n : ℕ) → IsRanged x → k + n ≤ x.length → all_distinct (texts_from x k n) ≡ true
ranged_distinct x k zero w l = refl
ranged_distinct x k (suc n) w l =
    true_both (not (has (bit_text x k) (texts_from x (suc k) n))) (all_distinct (texts_from x (suc k) n))
    (false_not _ (none (bit_text x k) (texts_from x (suc k) n)
    (λ m. let r = in_texts x (suc k) n (bit_text x k) m in let same = text_one x k r.0 w (omega arith) (omega (arith, r.2)) r.3 in absurd (omega (arith, r.1)))))
    (ranged_distinct x (suc k) n w (omega arith))

texts_distinct : (x : Signal) → is_spanned x ≡ true → all_distinct (texts_from x 0 x.length) ≡ true
texts_distinct x h = elim (either x.ranged) [
  | inl hit ↦ ranged_distinct x 0 x.length (ranged_of x h hit) (omega arith)
  | inr miss ↦ subst (λ n. all_distinct (texts_from x 0 n) ≡ true) (sym (single_of x h miss)) refl
]

-- a signal without range whose path is printed for a bit of another
pub bit_of : (x y : Signal) → x.ranged ≡ false → y.ranged ≡ true → In x.path (texts_from y 0 y.length) → is_bit_of x y ≡ true
bit_of x y r q m = true_both (not x.ranged) (y.ranged && has x.path (texts_from y 0 y.length)) (false_not x.ranged r) (true_both y.ranged (has x.path (texts_from y 0 y.length)) q (in_has x.path (texts_from y 0 y.length) m))

-- no bit of x prints like one of y
pair_apart : (x y : Signal) → (x.path ≡ y.path → ⊥) → is_bit_of x y ≡ false → is_bit_of y x ≡ false
    → (t : List ℕ) → In t (texts_from x 0 x.length) → In t (texts_from y 0 y.length) → ⊥
pair_apart x y other h k t m n =
    let a = in_texts x 0 x.length t m in
    let b = in_texts y 0 y.length t n in
    elim (either x.ranged) [
      | inl p ↦ elim (either y.ranged) [
        | inl q ↦ other (brackets_path x.path y.path (bit_index x a.0) (bit_index y b.0) (sym (text_ranged x a.0 p) ∙ sym a.3 ∙ b.3 ∙ text_ranged y b.0 q))
        | inr q ↦ not_both {P = ⊥} (is_bit_of y x) (bit_of y x q p (subst (λ s. In s (texts_from x 0 x.length)) (b.3 ∙ text_single y b.0 q) m)) k
      ]
      | inr p ↦ elim (either y.ranged) [
        | inl q ↦ not_both {P = ⊥} (is_bit_of x y) (bit_of x y p q (subst (λ s. In s (texts_from y 0 y.length)) (a.3 ∙ text_single x a.0 p) n)) h
        | inr q ↦ other (sym (text_single x a.0 p) ∙ sym a.3 ∙ b.3 ∙ text_single y b.0 q)
      ]
    ]

in_all : (t : List ℕ) (xs : List Signal) → In t (bit_texts xs) → (y : Signal) × In y xs × In t (texts_from y 0 y.length)
in_all t [] m = elim m [ ]
in_all t (x ∷ xs) m = elim (in_append t (texts_from x 0 x.length) (bit_texts xs) m) [
  | inl l ↦ (x, inl refl, l)
  | inr r ↦ (let k = in_all t xs r in (k.0, inr k.1, k.2))
]

pub all_in : (t : List ℕ) (xs : List Signal) (y : Signal) → In y xs → In t (texts_from y 0 y.length) → In t (bit_texts xs)
all_in t [] y m n = elim m [ ]
all_in t (x ∷ xs) y (inl e) n = in_left t (texts_from x 0 x.length) (bit_texts xs) (subst (λ (z : Signal). In t (texts_from z 0 z.length)) e n)
all_in t (x ∷ xs) y (inr m) n = in_right t (texts_from x 0 x.length) (bit_texts xs) (all_in t xs y m n)

in_paths : (y : Signal) (xs : List Signal) → In y xs → In y.path (paths xs)
in_paths y [] m = elim m [ ]
in_paths y (x ∷ xs) (inl e) = inl (ap (λ (z : Signal). z.path) e)
in_paths y (x ∷ xs) (inr m) = inr (in_paths y xs m)

-- none has the path of another's bit
pub record NoBit (xs : List Signal) : Type 0 where
  pub none_of : (x y : Signal) → In x xs → In y xs → is_bit_of x y ≡ false

no_less : (x : Signal) (xs : List Signal) → NoBit (x ∷ xs) → NoBit xs
no_less x xs w = record { none_of = λ y z m n. w.none_of y z (inr m) (inr n) }

-- bits print apart where paths do and none of these is the text of a bit
pub bits_apart : (xs : List Signal) → list_all is_spanned xs ≡ true → all_distinct (paths xs) ≡ true → NoBit xs → all_distinct (bit_texts xs) ≡ true
bits_apart [] h d w = refl
bits_apart (x ∷ xs) h d w =
    let p = both_true (is_spanned x) (list_all is_spanned xs) h in
    distinct_append (texts_from x 0 x.length) (bit_texts xs) (texts_distinct x p.0) (bits_apart xs p.1 (tail_distinct x.path (paths xs) d) (no_less x xs w))
    (λ t m n. let r = in_all t xs n in
    pair_apart x r.0 (λ e. head_alone x.path (paths xs) d (subst (λ s. In s (paths xs)) (sym e) (in_paths r.0 xs r.1))) (w.none_of x r.0 (inl refl) (inr r.1)) (w.none_of r.0 x (inr r.1) (inl refl)) t m r.2)

texts_append : (xs ys : List Signal) → bit_texts (xs ++ ys) ≡ bit_texts xs ++ bit_texts ys
texts_append [] ys = refl
texts_append (x ∷ xs) ys = ap (λ r. texts_from x 0 x.length ++ r) (texts_append xs ys) ∙ sym (append_assoc (texts_from x 0 x.length) (bit_texts xs) (bit_texts ys))

paths_append : (xs ys : List Signal) → paths (xs ++ ys) ≡ paths xs ++ paths ys
paths_append [] ys = refl
paths_append (x ∷ xs) ys = ap (λ r. x.path ∷ r) (paths_append xs ys)

own_text : (x : Signal) → is_spanned x ≡ true → x.ranged ≡ false → In x.path (texts_from x 0 x.length)
own_text x h r = subst (λ n. In x.path (texts_from x 0 n)) (sym (single_of x h r)) (inl (sym (text_single x 0 r)))

not_true_is : (b : Bool) → not b ≡ true → b ≡ false
not_true_is true h = cc
not_true_is false h = refl

-- what it is to be a bit of another
pub record IsBit (x y : Signal) : Type 0 where
  pub single : x.ranged ≡ false
  pub other : y.ranged ≡ true
  pub text : In x.path (texts_from y 0 y.length)

pub is_bit : (x y : Signal) → is_bit_of x y ≡ true → IsBit x y
is_bit x y h =
    let a = both_true (not x.ranged) (y.ranged && has x.path (texts_from y 0 y.length)) h in
    let b = both_true y.ranged (has x.path (texts_from y 0 y.length)) a.1 in
    record { single = not_true_is x.ranged a.0; other = b.0; text = has_in x.path (texts_from y 0 y.length) b.1 }

shared_bit : (xs : List Signal) (y z : Signal) (t : List ℕ) → In y xs → In t (texts_from y 0 y.length) → In t (texts_from z 0 z.length) → all_distinct (bit_texts (xs ++ z ∷ [])) ≡ false
shared_bit xs y z t m a b =
    ap all_distinct (texts_append xs (z ∷ [])) ∙ shared t (bit_texts xs) (texts_from z 0 z.length ++ []) (all_in t xs y m a) (in_left t (texts_from z 0 z.length) [] b)

-- a signal behind others that prints like a bit of one of them, or one of whose bits prints like one of them
pub clash_later : (xs : List Signal) (y z : Signal) → In y xs → is_spanned y ≡ true → is_spanned z ≡ true → (is_bit_of y z ≡ true) ⊎ (is_bit_of z y ≡ true)
    → print_apart (xs ++ z ∷ []) ≡ false
unfolding print_apart
clash_later xs y z m h k (inl e) = let w = is_bit y z e in right_false (all_distinct (paths (xs ++ z ∷ []))) (all_distinct (bit_texts (xs ++ z ∷ []))) (shared_bit xs y z y.path m (own_text y h w.single) w.text)
clash_later xs y z m h k (inr e) = let w = is_bit z y e in right_false (all_distinct (paths (xs ++ z ∷ []))) (all_distinct (bit_texts (xs ++ z ∷ []))) (shared_bit xs y z z.path m w.text (own_text z k w.single))

-- a signal behind others with the path of one of them
pub path_later : (xs : List Signal) (z : Signal) → has z.path (paths xs) ≡ true → print_apart (xs ++ z ∷ []) ≡ false
unfolding print_apart
path_later xs z h = left_false (all_distinct (paths (xs ++ z ∷ []))) (all_distinct (bit_texts (xs ++ z ∷ [])))
    (ap all_distinct (paths_append xs (z ∷ [])) ∙ shared z.path (paths xs) (z.path ∷ []) (has_in z.path (paths xs) h) (inl refl))
