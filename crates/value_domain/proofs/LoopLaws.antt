-- Walks over the bits of a list.
use Rattle.std.proofs.Common.{◌≡◌, ℕ, zero, suc, ◌+◌, ◌-◌, ◌*◌, ◌^◌, ◌<◌, ◌≤◌, Bool, true, false, not, List, [], ◌∷◌, length, map, drop, replicate, get_or, ap, refl, sym, ◌∙◌, arith, IsTrue, ◌↔◌}
use Rattle.std.proofs.lemmas.List.{drop_more, drop_all, length-replicate}
use Rattle.std.proofs.Math.Nat.{pow-le-pow_right}
use Rattle.bits_core.specs.Numbers.{bit_value, number, difference_bits, bits_of}
use Rattle.bits_core.proofs.NumberLaws.{twice_pow}
use Rattle.design_core.specs.Operators.{is_equal, negated}

pub number_end : (xs : List Bool) (k : ℕ) → length xs ≤ k → 0 ≡ number (drop k xs)
unfolding number
number_end xs k l = sym (ap number (drop_all k xs l))

-- the next lower bit
pub number_more : (xs : List Bool) (len d n : ℕ) (b : Bool) (m : ℕ) → len ≡ length xs → d < len → n ≡ number (drop (len - d) xs)
    → b ≡ get_or xs (len - 1 - d) false → m ≡ bit_value b + 2 * n → m ≡ number (drop (len - (d + 1)) xs)
unfolding number
number_more xs len d n b m e l f g h =
    let here : len - (d + 1) ≡ len - 1 - d = omega arith in
    let next : len - 1 - d + 1 ≡ len - d = omega (arith, l) in
    let within : len - 1 - d < length xs = omega (arith, e, l) in
    h ∙ ap (λ x. bit_value x + 2 * n) g ∙ ap (λ x. bit_value (get_or xs (len - 1 - d) false) + 2 * x) (f ∙ ap (λ k. number (drop k xs)) (sym next))
    ∙ sym (ap number (drop_more xs (len - 1 - d) false within)) ∙ ap (λ k. number (drop k xs)) (sym here)

pub number_whole : (xs : List Bool) (len d n : ℕ) → len ≤ d → n ≡ number (drop (len - d) xs) → n ≡ number xs
number_whole xs len d n l e = let none : len - d ≡ 0 = omega (arith, l) in e ∙ ap (λ k. number (drop k xs)) none

pub small_power : (n d : ℕ) → n < 2 ^ d → d < 128 → n < 2 ^ 127
small_power n d l m =
    let two : 0 < 2 = omega arith in
    let few : d ≤ 127 = omega (arith, m) in
    let p : 2 ^ d ≤ 2 ^ 127 = pow-le-pow_right two few in
    omega (arith, l, p)

pub more_power : (n d : ℕ) (b : Bool) (m : ℕ) → n < 2 ^ d → m ≡ bit_value b + 2 * n → m < 2 ^ (d + 1)
more_power n d false m l e = let t = twice_pow d in let s : 2 ^ (d + 1) ≡ 2 ^ suc d = ap (λ k. 2 ^ k) (omega arith) in omega (arith, l, e, t, s)
more_power n d true m l e = let t = twice_pow d in let s : 2 ^ (d + 1) ≡ 2 ^ suc d = ap (λ k. 2 ^ k) (omega arith) in omega (arith, l, e, t, s)

pub inverted_by : (xs out : List Bool) → length out ≡ length xs → ((k : ℕ) → k < length xs → get_or out k false ≡ not (get_or xs k false)) → out ≡ map not xs
inverted_by [] [] e h = refl
inverted_by [] (o ∷ out) e h = absurd (omega (arith, e))
inverted_by (x ∷ xs) [] e h = absurd (omega (arith, e))
inverted_by (x ∷ xs) (o ∷ out) e h =
    let first : o ≡ not x = h 0 (omega arith) in
    let rest : out ≡ map not xs = inverted_by xs out (omega (arith, e)) (λ k l. h (suc k) (omega (arith, l))) in
    cc

number_zeros : (n : ℕ) → number (replicate n false) ≡ 0
unfolding number
number_zeros zero = refl
number_zeros (suc n) = let e = number_zeros n in omega (arith, e)

-- a number taken from 0
pub from_zero : (n : ℕ) (xs : List Bool) → n ≡ length xs → difference_bits (replicate n false) xs ≡ negated xs
from_zero n xs e =
    ap (λ k. bits_of k (number (replicate n false) + (2 ^ k - number xs))) (length-replicate n false ∙ e)
    ∙ ap (λ z. bits_of (length xs) (z + (2 ^ length xs - number xs))) (number_zeros n)
    ∙ ap (bits_of (length xs)) (let z : 0 + (2 ^ length xs - number xs) ≡ 2 ^ length xs - number xs = omega arith in z)

equal_self : (xs : List Bool) → is_equal xs xs ≡ true
equal_self [] = refl
equal_self (false ∷ xs) = equal_self xs
equal_self (true ∷ xs) = equal_self xs

false_true : false ≡ true → ⊥
false_true e = cc

equal_same : (xs ys : List Bool) → is_equal xs ys ≡ true → xs ≡ ys
equal_same [] [] e = refl
equal_same [] (y ∷ ys) e = absurd (false_true e)
equal_same (x ∷ xs) [] e = absurd (false_true e)
equal_same (false ∷ xs) (false ∷ ys) e = ap (λ r. false ∷ r) (equal_same xs ys e)
equal_same (true ∷ xs) (true ∷ ys) e = ap (λ r. true ∷ r) (equal_same xs ys e)
equal_same (false ∷ xs) (true ∷ ys) e = absurd (false_true e)
equal_same (true ∷ xs) (false ∷ ys) e = absurd (false_true e)

pub decides_equal : (b : Bool) (xs ys : List Bool) → IsTrue b ↔ (xs ≡ ys) → b ≡ is_equal xs ys
decides_equal true xs ys h = sym (equal_self xs) ∙ ap (is_equal xs) (h.0 refl)
decides_equal false xs ys h = not_equal (is_equal xs ys) (λ e. h.1 (equal_same xs ys e))
  where
    not_equal : (t : Bool) → (t ≡ true → IsTrue false) → false ≡ t
    not_equal false f = refl
    not_equal true f = f refl
