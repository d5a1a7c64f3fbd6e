-- How far numbers lie from one another.
use Rattle.std.proofs.Common.{◌≡◌, ℕ, zero, suc, ◌+◌, ◌-◌, ◌*◌, ◌<◌, ◌≤◌, ◌⊎◌, inl, inr, min, max, Bool, true, false, nat_lt, List, [], ◌∷◌, length, map, drop, refl, sym, ap, ◌∙◌, arith}
use Rattle.std.specs.Prelude.{ℤ, pos, negsuc, int_lt, ◌-ℤ◌, unsigned_abs}
use Rattle.std.proofs.lemmas.Int.{ints}
use Rattle.std.proofs.lemmas.Bool.{lt-ltb, le-ltb, cases_lt}
use Rattle.std.proofs.lemmas.Bool.Decides.{nat_tests}
use Rattle.bits_core.specs.Numbers.{bit_value, number}
use Rattle.bits_core.specs.Places.{exclusive_or, bit_at}
use Rattle.vl_size.specs.Constants.{above}
use Rattle.vl_size.specs.Texts.{capped}
use Rattle.vl_size.specs.Gaps.{digit_at}
use Rattle.vl_size.proofs.ConstantLaws.{number_step, number_end}

-- the number of the bits from a place up
abbrev pub from_place : Bool → List Bool → ℕ → ℕ
from_place flip bits k = number (map (exclusive_or flip) (drop k bits))

from_end : (flip : Bool) (bits : List Bool) (k : ℕ) → length bits ≤ k → 0 ≡ from_place flip bits k
from_end flip bits k l = number_end (exclusive_or flip) bits k l

digit_step : (flip : Bool) (bits : List Bool) (k : ℕ) → from_place flip bits k ≡ bit_value (digit_at flip bits k) + 2 * from_place flip bits (suc k)
digit_step flip bits k = by (cases_lt k (length bits))
  where
    by : (k < length bits) ⊎ (length bits ≤ k) → from_place flip bits k ≡ bit_value (digit_at flip bits k) + 2 * from_place flip bits (suc k)
    by (inl l) = rw (lt-ltb k (length bits) l) (number_step (exclusive_or flip) bits k l)
    by (inr g) = rw (le-ltb k (length bits) g) (let e = from_end flip bits k g in let f = from_end flip bits (suc k) (omega (arith, g)) in omega (arith, e, f))

bit_small : (b : Bool) → bit_value b ≤ 1
bit_small false = omega arith
bit_small true = omega arith

-- one more digit of both
step : (h l a b m n up : ℕ) → a ≤ 1 → b ≤ 1 → m ≡ min 65537 (h - l) → n ≡ min 65537 (l - h)
    → up ≡ min 65537 (2 * m + a - (2 * n + b)) → up ≡ min 65537 (a + 2 * h - (b + 2 * l))
step h l a b m n up p q e f g = omega arith

pub gap_start : (flip : Bool) (a b : List Bool) (n : ℕ) → length a ≤ n → length b ≤ n → 0 ≡ min 65537 (from_place flip a n - from_place flip b n)
gap_start flip a b n p q = let e = from_end flip a n p in let f = from_end flip b n q in omega (arith, e, f)

pub gap_next : (flip : Bool) (a b : List Bool) (n turn m k up : ℕ) (da db : Bool) → turn < n
    → m ≡ min 65537 (from_place flip a (n - turn) - from_place flip b (n - turn)) → k ≡ min 65537 (from_place flip b (n - turn) - from_place flip a (n - turn))
    → da ≡ digit_at flip a (n - 1 - turn) → db ≡ digit_at flip b (n - 1 - turn) → up ≡ min 65537 (2 * m + bit_value da - (2 * k + bit_value db))
    → up ≡ min 65537 (from_place flip a (n - (turn + 1)) - from_place flip b (n - (turn + 1)))
gap_next flip a b n turn m k up da db l e f g h u =
    let next : suc (n - 1 - turn) ≡ n - turn = omega (arith, l) in
    let here : n - (turn + 1) ≡ n - 1 - turn = omega arith in
    let sa : from_place flip a (n - 1 - turn) ≡ bit_value da + 2 * from_place flip a (n - turn) =
    digit_step flip a (n - 1 - turn) ∙ ap (λ d. bit_value d + 2 * from_place flip a (suc (n - 1 - turn))) (sym g) ∙ ap (λ j. bit_value da + 2 * from_place flip a j) next in
    let sb : from_place flip b (n - 1 - turn) ≡ bit_value db + 2 * from_place flip b (n - turn) =
    digit_step flip b (n - 1 - turn) ∙ ap (λ d. bit_value d + 2 * from_place flip b (suc (n - 1 - turn))) (sym h) ∙ ap (λ j. bit_value db + 2 * from_place flip b j) next in
    step (from_place flip a (n - turn)) (from_place flip b (n - turn)) (bit_value da) (bit_value db) m k up (bit_small da) (bit_small db) e f u
    ∙ ap (λ x. min 65537 (x - (bit_value db + 2 * from_place flip b (n - turn)))) (sym sa)
    ∙ ap (λ x. min 65537 (from_place flip a (n - 1 - turn) - x)) (sym sb)
    ∙ ap (λ j. min 65537 (from_place flip a j - from_place flip b j)) (sym here)

pub gap_end : (flip : Bool) (a b : List Bool) (n turn m : ℕ) → n ≤ turn → m ≡ min 65537 (from_place flip a (n - turn) - from_place flip b (n - turn))
    → m ≡ min 65537 (from_place flip a 0 - from_place flip b 0)
gap_end flip a b n turn m l e = let none : n - turn ≡ 0 = omega (arith, l) in e ∙ ap (λ j. min 65537 (from_place flip a j - from_place flip b j)) none

distance : (h l : ℤ) → unsigned_abs (h -ℤ l) ≡ max (above h l) (above l h)
distance (pos m) (pos n) = omega (arith, ints)
distance (pos m) (negsuc n) = omega (arith, ints)
distance (negsuc m) (pos n) = omega (arith, ints)
distance (negsuc m) (negsuc n) = omega (arith, ints)

below_is : (h l : ℤ) → int_lt h l ≡ nat_lt 0 (above l h)
below_is (pos m) (pos n) = grind (arith, nat_tests)
below_is (pos m) (negsuc n) = refl
below_is (negsuc m) (pos n) = grind (arith, nat_tests)
below_is (negsuc m) (negsuc n) = grind (arith, nat_tests)

-- the places of a part-select, by the gap of its bounds
pub span_is : (h l : ℤ) (up down long n : ℕ) → up ≡ min 65537 (above h l) → down ≡ min 65537 (above l h) → long ≡ max up down → n ≡ capped (long + 1)
    → n ≡ capped (suc (unsigned_abs (h -ℤ l)))
span_is h l up down long n e f g k = k ∙ capped_same (long + 1) (suc (unsigned_abs (h -ℤ l))) (let d = distance h l in omega (arith, d, e, f, g))
  where
    capped_same : (i j : ℕ) → min 65537 i ≡ min 65537 j → capped i ≡ capped j
    capped_same i j e = grind (arith, nat_tests)

pub against_is : (h l : ℤ) (down : ℕ) → down ≡ min 65537 (above l h) → nat_lt 0 down ≡ int_lt h l
against_is h l down e = positive down (above l h) e ∙ sym (below_is h l)
  where
    positive : (m n : ℕ) → m ≡ min 65537 n → nat_lt 0 m ≡ nat_lt 0 n
    positive m n e = grind (arith, nat_tests)
