-- Indices as they are printed, and the bits of a signal by their indices.
use Rattle.std.proofs.Common.{◌≡◌, ℕ, suc, ◌<◌, ◌^◌, true, false, List, [], ◌∷◌, ◌++◌, ◌⊎◌, refl, sym, ap, ◌∙◌, inl, inr, arith, if◌then◌else◌, nat_lt, ℤ, pos, negsuc}
use Rattle.std.specs.Prelude.{◌==◌, ◌+ℤ◌, ◌-ℤ◌, ◌<ℤ◌, ◌≤ℤ◌, int_lt}
use Rattle.std.specs.List.{list_all}
use Rattle.std.proofs.lemmas.Int.{ints}
use Rattle.std.proofs.lemmas.Bool.Decides.{nat_tests}
use Rattle.std.proofs.lemmas.List.{append_cancel_right}
use Rattle.design_core.specs.Wellformed.{decimal, digits, index_text, is_bound, span_of, distance}
use Rattle.design_core.proofs.BoolLaws.{both_true, false_or, if_true, if_false, either}
use Rattle.design_names.specs.Brackets.{has_bracket, before_last, behind_last, in_brackets}
use Rattle.design_names.specs.Alike.{IsBetween}
use Rattle.design_names.proofs.TextLaws.{before_is, behind_is}
use Rattle.design_names.proofs.DigitLaws.{is_digit, digits_are, digits_one}

is_no_bracket : (d : ℕ) → is_digit d ≡ true → (d == 91) ≡ false
is_no_bracket d h = grind (arith, nat_tests)

plain : (ds : List ℕ) → list_all is_digit ds ≡ true → has_bracket (ds ++ 93 ∷ []) ≡ false
plain [] h = refl
plain (d ∷ ds) h =
    let p = both_true (is_digit d) (list_all is_digit ds) h in
    false_or (d == 91) (has_bracket (ds ++ 93 ∷ [])) (is_no_bracket d p.0) (plain ds p.1)

pub index_plain : (z : ℤ) → has_bracket (index_text z ++ 93 ∷ []) ≡ false
unfolding decimal
index_plain (pos n) = plain (digits 20 n) (digits_are 20 n)
index_plain (negsuc n) = plain (digits 20 (suc n)) (digits_are 20 (suc n))

-- texts with brackets are of one path and one index
pub brackets_path : (p q : List ℕ) (z w : ℤ) → in_brackets p (index_text z) ≡ in_brackets q (index_text w) → p ≡ q
brackets_path p q z w e = sym (before_is p (index_text z ++ 93 ∷ []) (index_plain z)) ∙ ap before_last e ∙ before_is q (index_text w ++ 93 ∷ []) (index_plain w)

pub brackets_index : (p q : List ℕ) (z w : ℤ) → in_brackets p (index_text z) ≡ in_brackets q (index_text w) → index_text z ≡ index_text w
brackets_index p q z w e = append_cancel_right (index_text z) (index_text w) (93 ∷ [])
    (sym (behind_is p (index_text z ++ 93 ∷ []) (index_plain z)) ∙ ap behind_last e ∙ behind_is q (index_text w ++ 93 ∷ []) (index_plain w))

pub no_sign : (ds : List ℕ) (rest : List ℕ) → list_all is_digit ds ≡ true → ds ≡ 45 ∷ rest → ⊥
no_sign ds rest h e = let f : list_all is_digit (45 ∷ rest) ≡ true = ap (list_all is_digit) (sym e) ∙ h in cc

pub small : (n : ℕ) → nat_lt n (2 ^ 31) ≡ true → n < 2 ^ 31
small n h = grind (arith, nat_tests)

pub tail_same : (a b : ℕ) (xs ys : List ℕ) → a ∷ xs ≡ b ∷ ys → xs ≡ ys
tail_same a b xs ys e = cc

-- bounds that print alike are one
pub index_one : (z w : ℤ) → is_bound z ≡ true → is_bound w ≡ true → index_text z ≡ index_text w → z ≡ w
unfolding decimal
index_one (pos n) (pos m) h k e = ap pos (digits_one 20 n m (omega (arith, small n h)) (omega (arith, small m k)) e)
index_one (pos n) (negsuc m) h k e = absurd (no_sign (digits 20 n) (digits 20 (suc m)) (digits_are 20 n) e)
index_one (negsuc n) (pos m) h k e = absurd (no_sign (digits 20 m) (digits 20 (suc n)) (digits_are 20 m) (sym e))
index_one (negsuc n) (negsuc m) h k e =
    let same = digits_one 20 (suc n) (suc m) (omega (arith, small n h)) (omega (arith, small m k)) (tail_same 45 45 _ _ e) in
    ap negsuc (omega arith)

-- how far a difference is from 0, up or down
far : (d : ℤ) → (d ≡ pos (distance d)) ⊎ (d +ℤ pos (distance d) ≡ pos 0)
far (pos n) = inl refl
far (negsuc n) = inr (omega (arith, ints))

lower : (a b : ℤ) → int_lt a b ≡ true → a <ℤ b
lower a b h = grind (arith, ints)

not_lower : (a b : ℤ) → int_lt a b ≡ false → b ≤ℤ a
not_lower a b h = grind (arith, ints)

abbrev IsSmall : ℤ → Type 0
IsSmall z = (negsuc 2147483647 ≤ℤ z) × (z <ℤ pos 2147483648)

pub small_of : (z : ℤ) → is_bound z ≡ true → IsSmall z
small_of (pos n) h = let k = small n h in (omega (arith, ints), omega (arith, ints))
small_of (negsuc n) h = let k = small n h in (omega (arith, ints), omega (arith, ints))

pub of_small : (z : ℤ) → IsSmall z → is_bound z ≡ true
of_small (pos n) h = let k : n < 2147483648 = omega (arith, ints) in grind (arith, nat_tests)
of_small (negsuc n) h = let k : n < 2147483648 = omega (arith, ints) in grind (arith, nat_tests)

abbrev pub index_at : ℤ → ℤ → ℕ → ℤ
index_at high low k = if int_lt high low then low -ℤ pos k else low +ℤ pos k

pub index_apart : (high low : ℤ) (i j : ℕ) → index_at high low i ≡ index_at high low j → i ≡ j
index_apart high low i j e = elim (either (int_lt high low)) [
  | inl hit ↦ (let f = sym (if_true (int_lt high low) (low -ℤ pos i) (low +ℤ pos i) hit) ∙ e ∙ if_true (int_lt high low) (low -ℤ pos j) (low +ℤ pos j) hit in omega (arith, ints))
  | inr miss ↦ (let f = sym (if_false (int_lt high low) (low -ℤ pos i) (low +ℤ pos i) miss) ∙ e ∙ if_false (int_lt high low) (low -ℤ pos j) (low +ℤ pos j) miss in omega (arith, ints))
]

pub index_between : (high low : ℤ) (n k : ℕ) → span_of high low ≡ n → k < n → IsBetween high low (index_at high low k)
index_between high low n k e l = elim (either (int_lt high low)) [
  | inl hit ↦ (let f = lower high low hit in let g = far (high -ℤ low) in let i = if_true (int_lt high low) (low -ℤ pos k) (low +ℤ pos k) hit in inl (f, omega (arith, ints), omega (arith, ints)))
  | inr miss ↦ (let f = not_lower high low miss in let g = far (high -ℤ low) in let i = if_false (int_lt high low) (low -ℤ pos k) (low +ℤ pos k) miss in inr (f, omega (arith, ints), omega (arith, ints)))
]

pub between_bound : (high low z : ℤ) → is_bound high ≡ true → is_bound low ≡ true → IsBetween high low z → is_bound z ≡ true
between_bound high low z h k w = let a = small_of high h in let b = small_of low k in of_small z (omega (arith, ints), omega (arith, ints))

is_lower : (a b : ℤ) → a <ℤ b → int_lt a b ≡ true
is_lower a b h = grind (arith, ints)

is_not_lower : (a b : ℤ) → b ≤ℤ a → int_lt a b ≡ false
is_not_lower a b h = grind (arith, ints)

counted : (a b d : ℤ) → a ≤ℤ b → b -ℤ a ≡ d → (k : ℕ) × (a +ℤ pos k ≡ b)
counted a b (pos k) h e = (k, omega (arith, ints))
counted a b (negsuc k) h e = absurd (omega (arith, ints))

steps_up : (a b : ℤ) → a ≤ℤ b → (k : ℕ) × (a +ℤ pos k ≡ b)
steps_up a b h = counted a b (b -ℤ a) h refl

pub between_index : (high low z : ℤ) (n : ℕ) → span_of high low ≡ n → IsBetween high low z → (k : ℕ) × (k < n) × (index_at high low k ≡ z)
between_index high low z n e (inl w) =
    let k = steps_up z low w.2 in
    let g = far (high -ℤ low) in
    (k.0, omega (arith, ints), if_true (int_lt high low) _ _ (is_lower high low w.0) ∙ omega (arith, ints))
between_index high low z n e (inr w) =
    let k = steps_up low z w.1 in
    let g = far (high -ℤ low) in
    (k.0, omega (arith, ints), if_false (int_lt high low) _ _ (is_not_lower high low w.0) ∙ omega (arith, ints))
