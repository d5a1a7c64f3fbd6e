-- Numbers of bits, taken from the highest bit down.
use Rattle.std.proofs.Common.{◌≡◌, ℕ, zero, suc, ◌+◌, ◌-◌, ◌*◌, ◌<◌, ◌≤◌, Bool, true, false, List, [], ◌∷◌, length, map, drop, get_or, refl, sym, ap, ◌∙◌, arith}
use Rattle.std.proofs.lemmas.List.{drop_all}
use Rattle.bits_core.specs.Numbers.{bit_value, number}

pub number_step : (f : Bool → Bool) (bits : List Bool) (k : ℕ) → k < length bits
    → number (map f (drop k bits)) ≡ bit_value (f (get_or bits k false)) + 2 * number (map f (drop (suc k) bits))
unfolding number
number_step f [] k l = absurd (omega (arith, l))
number_step f (b ∷ bits) zero l = refl
number_step f (b ∷ bits) (suc k) l = number_step f bits k (omega (arith, l))

-- the highest bits alone are no larger a number
pub number_front : (f : Bool → Bool) (bits : List Bool) (k : ℕ) → number (map f (drop k bits)) ≤ number (map f bits)
unfolding number
number_front f [] zero = omega arith
number_front f [] (suc k) = omega arith
number_front f (b ∷ bits) zero = omega arith
number_front f (b ∷ bits) (suc k) = let h = number_front f bits k in omega (arith, h)

pub number_end : (f : Bool → Bool) (bits : List Bool) (k : ℕ) → length bits ≤ k → 0 ≡ number (map f (drop k bits))
unfolding number
number_end f bits k l = sym (ap (λ xs. number (map f xs)) (drop_all k bits l))

-- the next lower bit
pub number_next : (f : Bool → Bool) (bits : List Bool) (d n : ℕ) (b : Bool) (m : ℕ) → d < length bits → n ≡ number (map f (drop (length bits - d) bits))
    → b ≡ f (get_or bits (length bits - 1 - d) false) → m ≡ bit_value b + 2 * n → m ≡ number (map f (drop (length bits - (d + 1)) bits))
number_next f bits d n b m l e g h =
    let here : length bits - (d + 1) ≡ length bits - 1 - d = omega arith in
    let next : suc (length bits - 1 - d) ≡ length bits - d = omega (arith, l) in
    let within : length bits - 1 - d < length bits = omega (arith, l) in
    h ∙ ap (λ x. bit_value x + 2 * n) g ∙ ap (λ x. bit_value (f (get_or bits (length bits - 1 - d) false)) + 2 * x) (e ∙ ap (λ k. number (map f (drop k bits))) (sym next))
    ∙ sym (number_step f bits (length bits - 1 - d) within) ∙ ap (λ k. number (map f (drop k bits))) (sym here)

-- with one more bit the number does not fit
pub number_large : (f : Bool → Bool) (bits : List Bool) (d n : ℕ) → d < length bits → n ≡ number (map f (drop (length bits - d) bits))
    → 4611686018427387904 ≤ n → 9223372036854775808 ≤ number (map f bits)
number_large f bits d n l e large =
    let next : suc (length bits - 1 - d) ≡ length bits - d = omega (arith, l) in
    let within : length bits - 1 - d < length bits = omega (arith, l) in
    let step = number_step f bits (length bits - 1 - d) within in
    let same : number (map f (drop (suc (length bits - 1 - d)) bits)) ≡ n = ap (λ k. number (map f (drop k bits))) next ∙ sym e in
    let front = number_front f bits (length bits - 1 - d) in
    omega (arith, step, same, front, large)

pub number_all : (f : Bool → Bool) (bits : List Bool) (d n : ℕ) → length bits ≤ d → n ≡ number (map f (drop (length bits - d) bits)) → n ≡ number (map f bits)
number_all f bits d n l e = let none : length bits - d ≡ 0 = omega (arith, l) in e ∙ ap (λ k. number (map f (drop k bits))) none

pub one_more_fits : (b : Bool) (m n : ℕ) → m ≡ bit_value b + 2 * n → n < 4611686018427387904 → m < 9223372036854775808
one_more_fits false m n e l = omega (arith, e, l)
one_more_fits true m n e l = omega (arith, e, l)
