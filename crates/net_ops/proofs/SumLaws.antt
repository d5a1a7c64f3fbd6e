-- One place of a sum, a difference or an order in a word that grows, and one row of a product.
use Rattle.std.proofs.Common.{◌≡◌, ℕ, zero, suc, ◌+◌, ◌-◌, ◌*◌, ◌^◌, ◌<◌, ◌≤◌, Bool, true, false, ◌&&◌, List, [], ◌∷◌, ◌++◌, length, map, take, drop, get_or, replicate, ap, refl, sym, ◌∙◌, arith, if◌then◌else◌}
use Rattle.std.proofs.lemmas.List.{drop_more, drop_all, append_assoc, append-nil, length-replicate}
use Rattle.bits_core.specs.Places.{exclusive_or}
use Rattle.bits_core.specs.Numbers.{bit_value, number, bits_of, difference_bits, is_less, signed_number}
use Rattle.bits_core.specs.Ripple.{ripple, carried, below}
use Rattle.bits_core.proofs.NumberLaws.{product_more, product_same}
use Rattle.bits_core.proofs.OrderLaws.{below_is_less}
use Rattle.design_core.specs.Operators.{negated}

-- the digit of a sum or, where inverted, of a difference: there a borrow is the carry's inverse
pub digit : (s a b w : Bool) → exclusive_or (exclusive_or a b) w ≡ exclusive_or (exclusive_or a (exclusive_or s b)) (exclusive_or s w)
digit false false false w = refl
digit false false true w = refl
digit false true false w = refl
digit false true true w = refl
digit true false false false = refl
digit true false false true = refl
digit true false true false = refl
digit true false true true = refl
digit true true false false = refl
digit true true false true = refl
digit true true true false = refl
digit true true true true = refl

-- what goes to the next place
pub onward : (s a b w : Bool) → exclusive_or s (if exclusive_or a b then (if s then b else w) else (if s then w else b)) ≡ carried a (exclusive_or s b) (exclusive_or s w)
onward false false false false = refl
onward false false false true = refl
onward false false true false = refl
onward false false true true = refl
onward false true false false = refl
onward false true false true = refl
onward false true true false = refl
onward false true true true = refl
onward true false false false = refl
onward true false false true = refl
onward true false true false = refl
onward true false true true = refl
onward true true false false = refl
onward true true false true = refl
onward true true true false = refl
onward true true true true = refl

-- one more place of a sum
pub grown : (k : ℕ) (c o d x y : Bool) (out xs ys whole : List Bool) → k < length xs → k < length ys
    → x ≡ get_or xs k false → y ≡ get_or ys k false → o ≡ exclusive_or (exclusive_or x y) c → d ≡ carried x y c
    → out ++ ripple c (drop k xs) (drop k ys) ≡ whole
    → (out ++ o ∷ []) ++ ripple d (drop (k + 1) xs) (drop (k + 1) ys) ≡ whole
unfolding ripple
grown k c o d x y out xs ys whole m n e f g h before =
    append_assoc out (o ∷ []) (ripple d (drop (k + 1) xs) (drop (k + 1) ys))
    ∙ ap (λ r. out ++ r) (here (drop (k + 1) xs) (drop (k + 1) ys) (first xs x m e) (first ys y n f))
    ∙ before
  where
    first : (zs : List Bool) (z : Bool) → k < length zs → z ≡ get_or zs k false → drop k zs ≡ z ∷ drop (k + 1) zs
    first zs z l e = drop_more zs k false l ∙ ap (λ w. w ∷ drop (k + 1) zs) (sym e)

    here : (us vs : List Bool) → drop k xs ≡ x ∷ us → drop k ys ≡ y ∷ vs → o ∷ ripple d us vs ≡ ripple c (drop k xs) (drop k ys)
    here us vs p q =
        ap (λ w. w ∷ ripple d us vs) g ∙ ap (λ w. exclusive_or (exclusive_or x y) c ∷ ripple w us vs) h
        ∙ ap (λ w. ripple c w (y ∷ vs)) (sym p) ∙ ap (λ w. ripple c (drop k xs) w) (sym q)

pub grown_end : (k : ℕ) (c : Bool) (out xs ys whole : List Bool) → length xs ≤ k → out ++ ripple c (drop k xs) ys ≡ whole → out ≡ whole
unfolding ripple
grown_end k c out xs ys whole l before = sym (append-nil out) ∙ ap (λ r. out ++ ripple c r ys) (sym (drop_all k xs l)) ∙ before

-- 0 less a word is the word negated
number_zeros : (n : ℕ) → number (replicate n false) ≡ 0
unfolding number
number_zeros zero = refl
number_zeros (suc n) = let h = number_zeros n in omega (arith, h)

pub negated_as_difference : (a : List Bool) → difference_bits (replicate (length a) false) a ≡ negated a
negated_as_difference a =
    let n = length a in
    ap (λ m. bits_of m (number (replicate n false) + (2 ^ m - number a))) (length-replicate n false)
    ∙ ap (λ m. bits_of n (m + (2 ^ n - number a))) (number_zeros n)
    ∙ ap (λ m. bits_of n m) (omega arith)

-- words of no bits are not less
pub less_by_place : (signed : Bool) (a b : List Bool) → length a ≡ length b → below signed false a b ≡ is_less signed a b
unfolding below number signed_number
less_by_place false [] [] e = refl
less_by_place true [] [] e = refl
less_by_place signed [] (y ∷ b) e = absurd (omega (arith, e))
less_by_place signed (x ∷ a) b e = below_is_less signed (x ∷ a) b e (omega arith)

-- a row of a product: the first operand where a bit of the second is 1
number_masked : (m : Bool) (a : List Bool) → number (map (λ x. m && x) a) ≡ bit_value m * number a
unfolding number
number_masked m [] = omega arith
number_masked false (x ∷ a) = let h = number_masked false a in omega (arith, h)
number_masked true (x ∷ a) = let h = number_masked true a in omega (arith, h)

pub row_added : (a b : List Bool) (i : ℕ) (m : Bool) → i < length b → get_or b i false ≡ m
    → bits_of (length a) (number a * number (take i b) + number (map (λ x. m && x) a) * 2 ^ i) ≡ bits_of (length a) (number a * number (take (i + 1) b))
row_added a b i false l e =
    ap (λ k. bits_of (length a) (number a * number (take i b) + k * 2 ^ i)) (number_masked false a)
    ∙ ap (λ k. bits_of (length a) k) (none (number a * number (take i b)) (number a) (2 ^ i))
    ∙ ap (λ k. bits_of (length a) k) (product_same a b i l e)
    ∙ ap (λ k. bits_of (length a) (number a * number (take k b))) (let e : suc i ≡ i + 1 = omega arith in e)
  where
    none : (x y z : ℕ) → x + 0 * y * z ≡ x
    none x y z = grind arith
row_added a b i true l e =
    ap (λ k. bits_of (length a) (number a * number (take i b) + k * 2 ^ i)) (number_masked true a)
    ∙ ap (λ k. bits_of (length a) (number a * number (take i b) + k * 2 ^ i)) (one (number a))
    ∙ product_more a b i l e
    ∙ ap (λ k. bits_of (length a) (number a * number (take k b))) (let e : suc i ≡ i + 1 = omega arith in e)
  where
    one : (y : ℕ) → 1 * y ≡ y
    one y = omega arith
