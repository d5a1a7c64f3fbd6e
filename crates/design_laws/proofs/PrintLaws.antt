-- No two bits print alike where paths are distinct and no path without a range is the text of a bit with one: the brackets and the digits can be read back.
use Rattle.std.proofs.Common.{◌≡◌, ℕ, zero, suc, ◌+◌, ◌-◌, ◌*◌, ◌/◌, ◌%◌, ◌<◌, ◌≤◌, Bool, true, false, not, ◌&&◌, if◌then◌else◌, List, [], ◌∷◌, ◌++◌, length, map, inl, inr, ◌⊎◌, length-append, refl, sym, ◌∙◌, ap, ap₂, subst, nat_lt, arith, ℤ, pos, negsuc, ◌+ℤ◌, ◌-ℤ◌, ◌≤ℤ◌}
use Rattle.std.specs.Prelude.{◌==◌, int_lt, nat_le}
use Rattle.std.specs.List.{list_all, list_any}
use Rattle.std.proofs.lemmas.Bool.Decides.{nat_tests}
use Rattle.std.proofs.lemmas.Int.{ints}
use Rattle.design_core.specs.declared.signals.Scope.{Scope}
use Rattle.design_core.specs.declared.signals.Signal.{Signal}
use Rattle.design_core.specs.Cells.{In}
use Rattle.design_core.specs.Wellformed.{same_bytes, all_distinct, digits, decimal, index_text, bracketed, span_of, bit_index, bit_text, texts_from, bit_texts, is_bound, signal_fits, print_apart, path_fits}
use Rattle.design_core.specs.Formed.{is_vector}
use Rattle.design_core.proofs.BoolLaws.{both_true, true_both, false_or, or_left, or_right, either}
use Rattle.design_laws.specs.Prints.{NoPathIsBit}

abbrev Text : Type 0
Text = List ℕ

number_is : (a b : ℕ) → (a == b) ≡ true → a ≡ b
number_is a b h = grind (arith, nat_tests)

same_number : (k : ℕ) → (k == k) ≡ true
same_number k = grind (arith, nat_tests)

below_is : (a b : ℕ) → nat_lt a b ≡ true → a < b
below_is a b h = grind (arith, nat_tests)

not_below : (a b : ℕ) → nat_lt a b ≡ false → b ≤ a
not_below a b h = grind (arith, nat_tests)

same_is : (a b : Text) → same_bytes a b ≡ true → a ≡ b
same_is [] [] h = refl
same_is [] (b ∷ bs) h = cc
same_is (a ∷ rest) [] h = cc
same_is (a ∷ rest) (b ∷ bs) h = let p = both_true (a == b) (same_bytes rest bs) h in ap₂ (λ x xs. x ∷ xs) (number_is a b p.0) (same_is rest bs p.1)

same_self : (a : Text) → same_bytes a a ≡ true
same_self [] = refl
same_self (a ∷ rest) = true_both (a == a) (same_bytes rest rest) (same_number a) (same_self rest)

-- a text that is none of the list
abbrev Free : Text → List Text → Type 0
Free x xs = (y : Text) → In y xs → x ≡ y → ⊥

abbrev AreApart : List Text → Type 0
AreApart [] = Unit {0}
AreApart (x ∷ xs) = Free x xs × AreApart xs

none_same : (x : Text) (xs : List Text) → Free x xs → list_any (same_bytes x) xs ≡ false
none_same x [] h = refl
none_same x (y ∷ ys) h =
    let here : same_bytes x y ≡ false = elim (either (same_bytes x y)) [ inl e ↦ absurd (h y (inl refl) (same_is x y e)) | inr e ↦ e ] in
    false_or (same_bytes x y) (list_any (same_bytes x) ys) here (none_same x ys (λ z m. h z (inr m)))

apart_distinct : (xs : List Text) → AreApart xs → all_distinct xs ≡ true
apart_distinct [] h = refl
apart_distinct (x ∷ xs) h = true_both (not (list_any (same_bytes x) xs)) (all_distinct xs) (ap not (none_same x xs h.0)) (apart_distinct xs h.1)

some_same : (x y : Text) (xs : List Text) → In y xs → x ≡ y → list_any (same_bytes x) xs ≡ true
some_same x y [] m e = elim m [ ]
some_same x y (z ∷ zs) (inl q) e = or_left (same_bytes x z) (list_any (same_bytes x) zs) (let P : Text → Type 0 = λ t. same_bytes x t ≡ true in subst P (e ∙ q) (same_self x))
some_same x y (z ∷ zs) (inr m) e = or_right (same_bytes x z) (list_any (same_bytes x) zs) (some_same x y zs m e)

no_true : (b : Bool) → not b ≡ true → b ≡ true → ⊥
no_true true h e = cc
no_true false h e = cc

distinct_apart : (xs : List Text) → all_distinct xs ≡ true → AreApart xs
distinct_apart [] h = tt
distinct_apart (x ∷ xs) h =
    let p = both_true (not (list_any (same_bytes x) xs)) (all_distinct xs) h in
    (λ y m e. no_true (list_any (same_bytes x) xs) p.0 (some_same x y xs m e), distinct_apart xs p.1)

in_append : {A : Type 0} (xs ys : List A) (y : A) → In y (xs ++ ys) → In y xs ⊎ In y ys
in_append [] ys y m = inr m
in_append (x ∷ xs) ys y (inl e) = inl (inl e)
in_append (x ∷ xs) ys y (inr m) = elim (in_append xs ys y m) [ inl p ↦ inl (inr p) | inr p ↦ inr p ]

apart_append : (xs ys : List Text) → AreApart xs → AreApart ys → ((x : Text) → In x xs → Free x ys) → AreApart (xs ++ ys)
apart_append [] ys h g c = g
apart_append (x ∷ xs) ys h g c = (
  λ y m e. elim (in_append xs ys y m) [ inl p ↦ h.0 y p e | inr p ↦ c x (inl refl) y p e ],
  apart_append xs ys h.1 g (λ z m. c z (inr m)),
)

-- digits, and the number that they say
digit_range : (k n d : ℕ) → In d (digits k n) → (48 ≤ d) × (d ≤ 57)
digit_range zero n d m = elim m [ ]
digit_range (suc k) n d m =
    let step : (c : Bool) → nat_lt n 10 ≡ c → In d (if c then (48 + n) ∷ [] else digits k (n / 10) ++ (48 + n % 10) ∷ []) → (48 ≤ d) × (d ≤ 57) = λ c. elim c as (λ v. nat_lt n 10 ≡ v → In d (if v then (48 + n) ∷ [] else digits k (n / 10) ++ (48 + n % 10) ∷ []) → (48 ≤ d) × (d ≤ 57)) [
      | true ↦ λ e i. elim i [ inl q ↦ (let l = below_is n 10 e in (omega (arith, q, l), omega (arith, q, l))) | inr w ↦ elim w [ ] ]
      | false ↦ λ e i. elim (in_append (digits k (n / 10)) ((48 + n % 10) ∷ []) d i) [
        | inl p ↦ digit_range k (n / 10) d p
        | inr p ↦ elim p [ inl q ↦ (omega (arith, q), omega (arith, q)) | inr w ↦ elim w [ ] ]
      ]
    ] in
    step (nat_lt n 10) refl m

abbrev total : ℕ → Text → ℕ
total acc [] = acc
total acc (d ∷ ds) = total (10 * acc + (d - 48)) ds

total_append : (acc : ℕ) (xs ys : Text) → total acc (xs ++ ys) ≡ total (total acc xs) ys
total_append acc [] ys = refl
total_append acc (x ∷ xs) ys = total_append (10 * acc + (x - 48)) xs ys

abbrev power : ℕ → ℕ
power zero = 1
power (suc k) = 10 * power k

total_digits : (k n : ℕ) → n < power k → total 0 (digits k n) ≡ n
total_digits zero n h = omega (arith, h)
total_digits (suc k) n h =
    let step : (c : Bool) → nat_lt n 10 ≡ c → total 0 (if c then (48 + n) ∷ [] else digits k (n / 10) ++ (48 + n % 10) ∷ []) ≡ n = λ c. elim c as (λ v. nat_lt n 10 ≡ v → total 0 (if v then (48 + n) ∷ [] else digits k (n / 10) ++ (48 + n % 10) ∷ []) ≡ n) [
      | true ↦ λ e. omega arith
      | false ↦ λ e. total_append 0 (digits k (n / 10)) ((48 + n % 10) ∷ []) ∙ ap (λ a. total a ((48 + n % 10) ∷ [])) (total_digits k (n / 10) (omega (arith, h))) ∙ (let q : 10 * (n / 10) + (48 + n % 10 - 48) ≡ n = omega arith in q)
    ] in
    step (nat_lt n 10) refl

decimal_once : (n m : ℕ) → n < power 20 → m < power 20 → decimal n ≡ decimal m → n ≡ m
unfolding decimal
decimal_once n m h l e = sym (total_digits 20 n h) ∙ ap (total 0) e ∙ total_digits 20 m l

-- an index is far from the longest that is printed whole
abbrev IsIndex : ℤ → Type 0
IsIndex (pos n) = n < power 20
IsIndex (negsuc n) = suc n < power 20

no_minus : (n : ℕ) (ds : Text) → decimal n ≡ 45 ∷ ds → ⊥
unfolding decimal
no_minus n ds e = let m : In 45 (digits 20 n) = subst (λ (xs : Text). In 45 xs) (sym e) (inl refl) in let p = digit_range 20 n 45 m in absurd (omega (arith, p.0))

index_once : (z w : ℤ) → IsIndex z → IsIndex w → index_text z ≡ index_text w → z ≡ w
index_once (pos n) (pos m) h l e = ap pos (decimal_once n m h l e)
index_once (pos n) (negsuc m) h l e = absurd (no_minus n (decimal (suc m)) e)
index_once (negsuc n) (pos m) h l e = absurd (no_minus m (decimal (suc n)) (sym e))
index_once (negsuc n) (negsuc m) h l e = let d : decimal (suc n) ≡ decimal (suc m) = cc in let s = decimal_once (suc n) (suc m) h l d in ap negsuc (omega (arith, s))

-- no opening bracket stands in an index
no_bracket : (z : ℤ) → In 91 (index_text z ++ 93 ∷ []) → ⊥
unfolding decimal
no_bracket (pos n) m = elim (in_append (decimal n) (93 ∷ []) 91 m) [
  | inl p ↦ (let r = digit_range 20 n 91 p in absurd (omega (arith, r.1)))
  | inr p ↦ elim p [ inl e ↦ absurd (omega (arith, e)) | inr w ↦ elim w [ ] ]
]
no_bracket (negsuc n) (inl e) = absurd (omega (arith, e))
no_bracket (negsuc n) (inr m) = elim (in_append (decimal (suc n)) (93 ∷ []) 91 m) [
  | inl p ↦ (let r = digit_range 20 (suc n) 91 p in absurd (omega (arith, r.1)))
  | inr p ↦ elim p [ inl e ↦ absurd (omega (arith, e)) | inr w ↦ elim w [ ] ]
]

in_front : (xs : Text) (c : ℕ) (ys : Text) → In c (xs ++ c ∷ ys)
in_front [] c ys = inl refl
in_front (x ∷ xs) c ys = inr (in_front xs c ys)

split_same : (p q a b : Text) → (In 91 a → ⊥) → (In 91 b → ⊥) → p ++ 91 ∷ a ≡ q ++ 91 ∷ b → (p ≡ q) × (a ≡ b)
split_same [] [] a b f g e = (refl, cc)
split_same [] (c ∷ q) a b f g e = let r : a ≡ q ++ 91 ∷ b = cc in absurd (f (subst (λ (xs : Text). In 91 xs) (sym r) (in_front q 91 b)))
split_same (c ∷ p) [] a b f g e = let r : p ++ 91 ∷ a ≡ b = cc in absurd (g (subst (λ (xs : Text). In 91 xs) r (in_front p 91 a)))
split_same (c ∷ p) (d ∷ q) a b f g e =
    let h : c ≡ d = cc in
    let r = split_same p q a b f g cc in
    (ap₂ (λ x xs. x ∷ xs) h r.0, r.1)

end_same : (t u : Text) → t ++ 93 ∷ [] ≡ u ++ 93 ∷ [] → t ≡ u
end_same [] [] e = refl
end_same [] (c ∷ u) e = let r : [] ≡ u ++ 93 ∷ [] = cc in let l = ap length r in absurd (omega (arith, l, length-append u (93 ∷ [])))
end_same (c ∷ t) [] e = let r : t ++ 93 ∷ [] ≡ [] = cc in let l = ap length r in absurd (omega (arith, l, length-append t (93 ∷ [])))
end_same (c ∷ t) (d ∷ u) e = let h : c ≡ d = cc in ap₂ (λ x xs. x ∷ xs) h (end_same t u cc)

parts_same : (p q : Text) (z w : ℤ) → p ++ bracketed z ≡ q ++ bracketed w → (p ≡ q) × (index_text z ≡ index_text w)
parts_same p q z w e = let r = split_same p q (index_text z ++ 93 ∷ []) (index_text w ++ 93 ∷ []) (no_bracket z) (no_bracket w) e in (r.0, end_same (index_text z) (index_text w) r.1)

-- the bits of one signal
texts_in : (x : Signal) (n k : ℕ) (t : Text) → In t (texts_from x k n) → (j : ℕ) × ((k ≤ j) × (j < k + n) × (t ≡ bit_text x j))
texts_in x zero k t m = elim m [ ]
texts_in x (suc n) k t (inl e) = (k, (omega arith, omega arith, e))
texts_in x (suc n) k t (inr m) = let r = texts_in x n (suc k) t m in let a = r.1.0 in let b = r.1.1 in (r.0, (omega (arith, a), omega (arith, b), r.1.2))

texts_apart : (x : Signal) (n k : ℕ) → ((i j : ℕ) → k ≤ i → i < j → j < k + n → bit_text x i ≡ bit_text x j → ⊥) → AreApart (texts_from x k n)
texts_apart x zero k h = tt
texts_apart x (suc n) k h = (
  λ t m e. (let r = texts_in x n (suc k) t m in let a = r.1.0 in let b = r.1.1 in h k r.0 (omega arith) (omega (arith, a)) (omega (arith, b)) (e ∙ r.1.2)),
  texts_apart x n (suc k) (λ i j a b c. h i j (omega (arith, a)) b (omega (arith, c))),
)

-- the index of a bit, counted up or down from the right bound
abbrev index_from : Bool → ℤ → ℕ → ℤ
index_from c z k = if c then z -ℤ pos k else z +ℤ pos k

step_once : (c : Bool) (z : ℤ) (i j : ℕ) → index_from c z i ≡ index_from c z j → i ≡ j
step_once true z i j e = omega (arith, ints, e)
step_once false z i j e = omega (arith, ints, e)

abbrev IsNear : ℤ → Type 0
IsNear z = (negsuc 2147483648 ≤ℤ z) × (z ≤ℤ pos 2147483648)

bound_near : (z : ℤ) → is_bound z ≡ true → IsNear z
bound_near (pos n) h = let l : n < 2147483648 = below_is n 2147483648 h in (omega (arith, ints, l), omega (arith, ints, l))
bound_near (negsuc n) h = let l : n < 2147483648 = below_is n 2147483648 h in (omega (arith, ints, l), omega (arith, ints, l))

near_index : (z : ℤ) → negsuc 4294967296 ≤ℤ z → z ≤ℤ pos 4294967296 → IsIndex z
near_index (pos n) h l = let p : power 20 ≡ 100000000000000000000 = refl in omega (arith, ints, h, l, p)
near_index (negsuc n) h l = let p : power 20 ≡ 100000000000000000000 = refl in omega (arith, ints, h, l, p)

step_near : (c : Bool) (z : ℤ) (k : ℕ) → IsNear z → k < 65536 → IsIndex (index_from c z k)
step_near true z k h l = near_index (z -ℤ pos k) (omega (arith, ints, h.0, h.1, l)) (omega (arith, ints, h.0, h.1, l))
step_near false z k h l = near_index (z +ℤ pos k) (omega (arith, ints, h.0, h.1, l)) (omega (arith, ints, h.0, h.1, l))

-- what being formed gives of a signal
record IsFit (x : Signal) : Type 0 where
  pub long : x.length ≤ 65536
  pub near : x.ranged ≡ true → IsNear x.low
  pub single : x.ranged ≡ false → x.length ≡ 1

at_most : (a b : ℕ) → nat_le a b ≡ true → a ≤ b
at_most a b h = grind (arith, nat_tests)

ranged_near : (r : Bool) (x : Signal) (n : ℕ) → (if r then is_bound x.high && is_bound x.low && (span_of x.high x.low == n) else (n == 1)) ≡ true → r ≡ true → IsNear x.low
ranged_near true x n h e = bound_near x.low (both_true (is_bound x.high) (is_bound x.low) (both_true (is_bound x.high && is_bound x.low) (span_of x.high x.low == n) h).0).1
ranged_near false x n h e = cc

unranged_single : (r : Bool) (x : Signal) (n : ℕ) → (if r then is_bound x.high && is_bound x.low && (span_of x.high x.low == n) else (n == 1)) ≡ true → r ≡ false → n ≡ 1
unranged_single true x n h e = cc
unranged_single false x n h e = number_is n 1 h

signal_fit : (scopes : List Scope) (x : Signal) → signal_fits scopes x ≡ true → IsFit x
signal_fit scopes x h =
    let whole = if x.ranged then is_bound x.high && is_bound x.low && (span_of x.high x.low == x.length) else (x.length == 1) in
    let a = both_true (nat_lt x.scope (length scopes) && is_vector x.length && whole) (path_fits scopes x) h in
    let b = both_true (nat_lt x.scope (length scopes) && is_vector x.length) whole a.0 in
    let v = both_true (nat_lt x.scope (length scopes)) (is_vector x.length) b.0 in
    record {
      long = at_most x.length 65536 (both_true (nat_le 1 x.length) (nat_le x.length 65536) v.1).1;
      near = ranged_near x.ranged x x.length b.1;
      single = unranged_single x.ranged x x.length b.1;
    }

signals_fit : (scopes : List Scope) (xs : List Signal) → list_all (signal_fits scopes) xs ≡ true → (x : Signal) → In x xs → IsFit x
signals_fit scopes [] h x m = elim m [ ]
signals_fit scopes (y ∷ ys) h x (inl e) = subst IsFit (sym e) (signal_fit scopes y (both_true (signal_fits scopes y) (list_all (signal_fits scopes) ys) h).0)
signals_fit scopes (y ∷ ys) h x (inr m) = signals_fit scopes ys (both_true (signal_fits scopes y) (list_all (signal_fits scopes) ys) h).1 x m

-- a text with or without an index
abbrev printed : Bool → Text → ℤ → Text
printed r p z = if r then p ++ bracketed z else p

own_once : (r c : Bool) (p : Text) (z : ℤ) (n i j : ℕ) → (r ≡ true → IsNear z) → (r ≡ false → n ≡ 1) → n ≤ 65536 → i < j → j < n
    → printed r p (index_from c z i) ≡ printed r p (index_from c z j) → ⊥
own_once true c p z n i j near single long l b e =
    let q = parts_same p p (index_from c z i) (index_from c z j) e in
    let same = index_once (index_from c z i) (index_from c z j) (step_near c z i (near refl) (omega (arith, l, b, long))) (step_near c z j (near refl) (omega (arith, b, long))) q.1 in
    let s = step_once c z i j same in
    absurd (omega (arith, s, l))
own_once false c p z n i j near single long l b e = let s = single refl in absurd (omega (arith, s, l, b))

own_apart : (x : Signal) → IsFit x → AreApart (texts_from x 0 x.length)
own_apart x f = texts_apart x x.length 0 (λ i j a l b e.
    own_once x.ranged (int_lt x.high x.low) x.path x.low x.length i j f.near f.single f.long l (let q : 0 + x.length ≡ x.length = omega arith in omega (arith, b, q)) e)

-- two signals
clash : (r s : Bool) (p q : Text) (z w : ℤ) → (p ≡ q → ⊥) → (r ≡ false → s ≡ true → p ≡ printed s q w → ⊥) → (s ≡ false → r ≡ true → q ≡ printed r p z → ⊥)
    → printed r p z ≡ printed s q w → ⊥
clash true true p q z w ne f g e = ne (parts_same p q z w e).0
clash true false p q z w ne f g e = g refl refl (sym e)
clash false true p q z w ne f g e = f refl refl e
clash false false p q z w ne f g e = ne e

record IsText (xs : List Signal) (t : Text) : Type 0 where
  pub signal : Signal
  pub member : In signal xs
  pub place : ℕ
  pub below : place < signal.length
  pub is : t ≡ bit_text signal place

own_text : (x : Signal) (t : Text) → In t (texts_from x 0 x.length) → (j : ℕ) × ((j < x.length) × (t ≡ bit_text x j))
own_text x t m = let r = texts_in x x.length 0 t m in let b = r.1.1 in (r.0, (omega (arith, b), r.1.2))

text_of : (xs : List Signal) (t : Text) → In t (bit_texts xs) → IsText xs t
text_of [] t m = elim m [ ]
text_of (x ∷ xs) t m = elim (in_append (texts_from x 0 x.length) (bit_texts xs) t m) [
  | inl p ↦ (let r = own_text x t p in record { signal = x; member = inl refl; place = r.0; below = r.1.0; is = r.1.1 })
  | inr p ↦ (let r = text_of xs t p in record { signal = r.signal; member = inr r.member; place = r.place; below = r.below; is = r.is })
]

path_free : (x : Signal) (xs : List Signal) → Free x.path (map (λ (y : Signal). y.path) xs) → (y : Signal) → In y xs → x.path ≡ y.path → ⊥
path_free x [] h y m e = elim m [ ]
path_free x (z ∷ zs) h y (inl q) e = h z.path (inl refl) (e ∙ ap (λ (w : Signal). w.path) q)
path_free x (z ∷ zs) h y (inr m) e = path_free x zs (λ t n. h t (inr n)) y m e

texts_all_apart : (xs : List Signal) → ((x : Signal) → In x xs → IsFit x) → NoPathIsBit xs → AreApart (map (λ (x : Signal). x.path) xs) → AreApart (bit_texts xs)
texts_all_apart [] f g p = tt
texts_all_apart (x ∷ xs) f g p = apart_append (texts_from x 0 x.length) (bit_texts xs) (own_apart x (f x (inl refl)))
    (texts_all_apart xs (λ y m. f y (inr m)) (λ y z k m n. g y z k (inr m) (inr n)) p.1)
    (λ t m u n e.
    let a = own_text x t m in
    let b = text_of xs u n in
    let y = b.signal in
    clash x.ranged y.ranged x.path y.path (bit_index x a.0) (bit_index y b.place) (path_free x xs p.0 y b.member)
    (λ r s q. g x y b.place (inl refl) (inr b.member) r s b.below q)
    (λ s r q. g y x a.0 (inr b.member) (inl refl) s r a.1.0 q)
    (sym a.1.1 ∙ e ∙ b.is))

pub print_all_apart : (scopes : List Scope) (signals : List Signal) → list_all (signal_fits scopes) signals ≡ true
    → all_distinct (map (λ (x : Signal). x.path) signals) ≡ true → NoPathIsBit signals → print_apart signals ≡ true
unfolding print_apart
print_all_apart scopes signals h d g =
    true_both (all_distinct (map (λ (x : Signal). x.path) signals)) (all_distinct (bit_texts signals)) d
    (apart_distinct (bit_texts signals) (texts_all_apart signals (signals_fit scopes signals h) g (distinct_apart (map (λ (x : Signal). x.path) signals) d)))
