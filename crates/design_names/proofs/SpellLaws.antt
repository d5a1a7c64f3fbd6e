-- Texts read as numbers.
use Rattle.std.proofs.Common.{◌≡◌, ℕ, zero, suc, ◌+◌, ◌*◌, ◌-◌, ◌<◌, ◌≤◌, ◌/◌, ◌%◌, ◌^◌, Bool, true, false, List, [], ◌∷◌, ◌++◌, ◌&&◌, drop, length, get_or, drop-cons, add-one, refl, sym, ap, ◌∙◌, arith, nat_lt}
use Rattle.std.specs.Prelude.{◌==◌}
use Rattle.std.proofs.lemmas.Bool.Decides.{nat_tests}
use Rattle.design_core.specs.Wellformed.{decimal, digits, same_bytes}
use Rattle.design_core.proofs.BoolLaws.{if_true, if_false}
use Rattle.design_names.specs.Brackets.{worth}
use Rattle.design_names.proofs.TextLaws.{same_is, is_same}
use Rattle.design_names.proofs.DigitLaws.{digits_worth}

and_true : (b : Bool) → (b && true) ≡ b
and_true true = refl
and_true false = refl

and_false : (b : Bool) → (b && false) ≡ false
and_false true = refl
and_false false = refl

and_assoc : (a b c : Bool) → ((a && b) && c) ≡ (a && (b && c))
and_assoc true b c = refl
and_assoc false b c = refl

longer : (xs : List ℕ) (a b c : ℕ) (ys : List ℕ) → same_bytes (xs ++ a ∷ []) (b ∷ []) ≡ (same_bytes xs [] && (a == b))
longer [] a b c ys = and_true (a == b)
longer (x ∷ []) a b c ys = and_false (x == b)
longer (x ∷ y ∷ xs) a b c ys = and_false (x == b)

shorter : (y : ℕ) (ys : List ℕ) (a b : ℕ) → same_bytes (a ∷ []) (y ∷ (ys ++ b ∷ [])) ≡ false
shorter y [] a b = and_false (a == y)
shorter y (z ∷ ys) a b = and_false (a == y)

pub same_snoc : (xs ys : List ℕ) (a b : ℕ) → same_bytes (xs ++ a ∷ []) (ys ++ b ∷ []) ≡ (same_bytes xs ys && (a == b))
same_snoc xs [] a b = longer xs a b 0 []
same_snoc [] (y ∷ ys) a b = shorter y ys a b
same_snoc (x ∷ xs) (y ∷ ys) a b = ap (λ t. (x == y) && t) (same_snoc xs ys a b) ∙ sym (and_assoc (x == y) (same_bytes xs ys) (a == b))

pub same_none : (xs : List ℕ) (a : ℕ) → same_bytes (xs ++ a ∷ []) [] ≡ false
same_none [] a = refl
same_none (x ∷ xs) a = refl

small_room : (room n : ℕ) → nat_lt n 10 ≡ true → digits (suc room) n ≡ (48 + n) ∷ []
small_room room n h = if_true (nat_lt n 10) ((48 + n) ∷ []) (digits room (n / 10) ++ (48 + n % 10) ∷ []) h

large_room : (room n : ℕ) → nat_lt n 10 ≡ false → digits (suc room) n ≡ digits room (n / 10) ++ (48 + n % 10) ∷ []
large_room room n h = if_false (nat_lt n 10) ((48 + n) ∷ []) (digits room (n / 10) ++ (48 + n % 10) ∷ []) h

pub ends_small : (front : List ℕ) (last room n : ℕ) → nat_lt n 10 ≡ true → same_bytes (front ++ last ∷ []) (digits (suc room) n) ≡ (same_bytes front [] && (last == 48 + n))
ends_small front last room n h = ap (same_bytes (front ++ last ∷ [])) (small_room room n h) ∙ same_snoc front [] last (48 + n)

pub ends_large : (front : List ℕ) (last room n : ℕ) → nat_lt n 10 ≡ false
    → same_bytes (front ++ last ∷ []) (digits (suc room) n) ≡ (same_bytes front (digits room (n / 10)) && (last == 48 + n % 10))
ends_large front last room n h = ap (same_bytes (front ++ last ∷ [])) (large_room room n h) ∙ same_snoc front (digits room (n / 10)) last (48 + n % 10)

pub grows : (n : ℕ) (ds : List ℕ) → n ≤ worth n ds
grows n [] = omega arith
grows n (d ∷ ds) = omega (arith, grows (10 * n + (d - 48)) ds)

pub decimal_worth : (n : ℕ) → n ≤ 2 ^ 31 → worth 0 (decimal n) ≡ n
unfolding decimal
decimal_worth n h = digits_worth 20 n (omega arith)

pub too_large : (text : List ℕ) → 2 ^ 31 < worth 0 text → (n : ℕ) → n ≤ 2 ^ 31 → text ≡ decimal n → ⊥
too_large text h n l e = let f = ap (worth 0) e ∙ decimal_worth n l in absurd (omega arith)

pub spelled : (text : List ℕ) (n : ℕ) → same_bytes text (digits 20 n) ≡ true → text ≡ decimal n
unfolding decimal
spelled text n h = same_is text (digits 20 n) h

pub misspelled : (text : List ℕ) (m : ℕ) → m ≡ worth 0 text → same_bytes text (digits 20 m) ≡ false → (n : ℕ) → n ≤ 2 ^ 31 → text ≡ decimal n → ⊥
unfolding decimal
misspelled text m is h n l e =
    let f = is ∙ ap (worth 0) e ∙ decimal_worth n l in
    let g = is_same text (digits 20 m) (e ∙ ap (digits 20) (sym f)) in cc

is_below : (n : ℕ) → n < 10 → nat_lt n 10 ≡ true
is_below n h = grind (arith, nat_tests)

is_above : (n : ℕ) → 10 ≤ n → nat_lt n 10 ≡ false
is_above n h = grind (arith, nat_tests)

pub one_less : (room : ℕ) → (room ≡ 0 → ⊥) → room ≡ suc (room - 1)
one_less zero h = absurd (h refl)
one_less (suc r) h = omega arith

pub ends_nowhere : (front : List ℕ) (last room n : ℕ) → room ≡ 0 → false ≡ same_bytes (front ++ last ∷ []) (digits room n)
ends_nowhere front last zero n e = sym (same_none front last)
ends_nowhere front last (suc room) n e = absurd (omega arith)

pub ends_short : (front : List ℕ) (last room n : ℕ) → (room ≡ 0 → ⊥) → n < 10 → (same_bytes front [] && (last == 48 + n)) ≡ same_bytes (front ++ last ∷ []) (digits room n)
ends_short front last room n h l = sym (ap (λ r. same_bytes (front ++ last ∷ []) (digits r n)) (one_less room h) ∙ ends_small front last (room - 1) n (is_below n l))

pub ends_long : (front : List ℕ) (last room n : ℕ) → (room ≡ 0 → ⊥) → 10 ≤ n
    → (same_bytes front (digits (room - 1) (n / 10)) && (last == 48 + n % 10)) ≡ same_bytes (front ++ last ∷ []) (digits room n)
ends_long front last room n h l = sym (ap (λ r. same_bytes (front ++ last ∷ []) (digits r n)) (one_less room h) ∙ ends_large front last (room - 1) n (is_above n l))

is_more : (n : ℕ) → (suc n == 0) ≡ false
is_more n = grind (arith, nat_tests)

pub empty_same : (xs : List ℕ) → (length xs == 0) ≡ same_bytes xs []
empty_same [] = refl
empty_same (x ∷ xs) = is_more (length xs)

pub with_true : (a b : Bool) → b ≡ true → a ≡ (a && b)
with_true a b e = sym (and_true a) ∙ ap (λ x. a && x) (sym e)

pub with_false : (a b : Bool) → b ≡ false → b ≡ (a && b)
with_false a b e = e ∙ sym (and_false a) ∙ ap (λ x. a && x) (sym e)

pub worth_step : (text : List ℕ) (i n : ℕ) → i < length text → worth n (drop i text) ≡ worth (10 * n + (get_or text i 0 - 48)) (drop (i + 1) text)
worth_step text i n h = ap (worth n) (drop-cons text i 0 h) ∙ ap (λ k. worth (10 * n + (get_or text i 0 - 48)) (drop k text)) (sym (add-one i))

pub passed : (text : List ℕ) (i n m : ℕ) → i < length text → worth n (drop i text) ≡ worth 0 text → m ≡ 10 * n + (get_or text i 0 - 48) → 2 ^ 31 < m → 2 ^ 31 < worth 0 text
passed text i n m h e is l =
    let f = worth_step text i n h in
    let g = grows (10 * n + (get_or text i 0 - 48)) (drop (i + 1) text) in
    omega arith

pub not_eqb : (a b : ℕ) → (a ≡ b → ⊥) → (a == b) ≡ false
not_eqb a b h = grind (arith, nat_tests)

pub with_left : (a b : Bool) → a ≡ false → a ≡ (a && b)
with_left true b e = cc
with_left false b e = refl

pub ends_first : (front : List ℕ) (last room n : ℕ) → (room ≡ 0 → ⊥) → n < 10 → ((length front == 0) && (last == 48 + n)) ≡ same_bytes (front ++ last ∷ []) (digits room n)
ends_first front last room n h l = ap (λ x. x && (last == 48 + n)) (empty_same front) ∙ ends_short front last room n h l
