-- No two bits have one number, a bit's number is its place in the order of bits, and numbers have the order of bits.
use Rattle.std.proofs.Common.{◌≡◌, ℕ, suc, ◌+◌, ◌-◌, ◌<◌, true, List, [], ◌∷◌, length, take, get_or, inl, inr, ◌⊎◌, zero, sum, length-append, refl, ◌∙◌, ap, ap₂, nat_lt, arith}
use Rattle.std.proofs.lemmas.Bool.Decides.{nat_tests}
use Rattle.std.proofs.lemmas.List.Sums.{sum_by-cons}
use Rattle.std.proofs.lemmas.List.{get_or_append_left, get_or-append_right}
use Rattle.design_core.specs.declared.place.BitRef.{BitRef}
use Rattle.design_core.specs.declared.signals.Signal.{Signal}
use Rattle.design_core.specs.Core.{bit}
use Rattle.design_core.specs.Parts.{bits_from, bits_of_signals}
use Rattle.design_core.specs.Wellformed.{signal_lengths}
use Rattle.design_core.specs.Numbers.{number, is_bit, named_bit}

below_is : (a b : ℕ) → nat_lt a b ≡ true → a < b
below_is a b h = grind (arith, nat_tests)

sum_first : (v : ℕ) (vs : List ℕ) → sum (v ∷ vs) ≡ v + sum vs
sum_first v vs = sum_by-cons (λ n. n) v vs

-- the number of a bit is below that of all bits
pub number_below : (vs : List ℕ) (s k : ℕ) → k < get_or vs s 0 → sum (take s vs) + k < sum vs
number_below [] s k h = absurd (omega arith)
number_below (v ∷ vs) zero k h = let e = sum_first v vs in let l : k < v = h in omega arith
number_below (v ∷ vs) (suc s) k h = let r = number_below vs s k h in let e = sum_first v vs in let f = sum_first v (take s vs) in let g : sum (take (suc s) (v ∷ vs)) ≡ sum (v ∷ take s vs) = refl in omega arith

pub once : (vs : List ℕ) (s k t j : ℕ) → k < get_or vs s 0 → j < get_or vs t 0 → sum (take s vs) + k ≡ sum (take t vs) + j → (s ≡ t) × (k ≡ j)
once [] s k t j h l e = absurd (omega arith)
once (v ∷ vs) zero k zero j h l e = let f : 0 + k ≡ 0 + j = e in (refl, omega arith)
once (v ∷ vs) zero k (suc t) j h l e = let a = sum_first v (take t vs) in let b : k < v = h in let f : 0 + k ≡ sum (v ∷ take t vs) + j = e in absurd (omega arith)
once (v ∷ vs) (suc s) k zero j h l e = let a = sum_first v (take s vs) in let b : j < v = l in let f : sum (v ∷ take s vs) + k ≡ 0 + j = e in absurd (omega arith)
once (v ∷ vs) (suc s) k (suc t) j h l e =
    let a = sum_first v (take s vs) in let b = sum_first v (take t vs) in let f : sum (v ∷ take s vs) + k ≡ sum (v ∷ take t vs) + j = e in
    let r = once vs s k t j h l (omega arith) in (ap suc r.0, r.1)

pub number_once : (vs : List ℕ) (a b : BitRef) → is_bit vs a ≡ true → is_bit vs b ≡ true → number vs a ≡ number vs b → a ≡ b
number_once vs a b h l e =
    let r = once vs a.signal a.bit b.signal b.bit (below_is a.bit (get_or vs a.signal 0) h) (below_is b.bit (get_or vs b.signal 0) l) e in ap₂ bit r.0 r.1

one_signal : (s k n j : ℕ) (d : BitRef) → j < n → get_or (bits_from s k n) j d ≡ bit s (k + j)
one_signal s k zero j d h = absurd (omega arith)
one_signal s k (suc n) zero d h = ap (bit s) (let e : k ≡ k + 0 = omega arith in e)
one_signal s k (suc n) (suc j) d h = one_signal s (suc k) n j d (omega arith) ∙ ap (bit s) (let e : suc k + j ≡ k + suc j = omega arith in e)

many_bits : (s k n : ℕ) → length (bits_from s k n) ≡ n
many_bits s k zero = refl
many_bits s k (suc n) = ap suc (many_bits s (suc k) n)

-- the bit of a number is the one at that place in the order of bits
pub placed : (base : ℕ) (signals : List Signal) (s k : ℕ) (d : BitRef) → k < get_or (signal_lengths signals) s 0
    → get_or (bits_of_signals base signals) (sum (take s (signal_lengths signals)) + k) d ≡ bit (base + s) k
placed base [] s k d h = absurd (omega arith)
placed base (x ∷ xs) zero k d h =
    let l : k < x.length = h in let m = many_bits base 0 x.length in
    ap (λ n. get_or (bits_of_signals base (x ∷ xs)) n d) (let e : 0 + k ≡ k = omega arith in e)
    ∙ get_or_append_left (bits_from base 0 x.length) (bits_of_signals (suc base) xs) d k (omega arith)
    ∙ one_signal base 0 x.length k d l ∙ ap₂ bit (let e : base ≡ base + 0 = omega arith in e) (let e : 0 + k ≡ k = omega arith in e)
placed base (x ∷ xs) (suc s) k d h =
    let m = many_bits base 0 x.length in let f = sum_first x.length (take s (signal_lengths xs)) in
    get_or-append_right (bits_from base 0 x.length) (bits_of_signals (suc base) xs) x.length (sum (x.length ∷ take s (signal_lengths xs)) + k) d m (omega arith)
    ∙ ap (λ n. get_or (bits_of_signals (suc base) xs) n d) (let e : sum (x.length ∷ take s (signal_lengths xs)) + k - x.length ≡ sum (take s (signal_lengths xs)) + k = omega arith in e)
    ∙ placed (suc base) xs s k d h ∙ ap (λ n. bit n k) (let e : suc base + s ≡ base + suc s = omega arith in e)

-- the number of a bit is below that of all bits, and the bit at that place is the bit
many_signals : (base : ℕ) (signals : List Signal) → length (bits_of_signals base signals) ≡ sum (signal_lengths signals)
many_signals base [] = refl
many_signals base (x ∷ xs) =
    let m = many_bits base 0 x.length in let r = many_signals (suc base) xs in let e = sum_first x.length (signal_lengths xs) in
    let a = length-append (bits_from base 0 x.length) (bits_of_signals (suc base) xs) in omega (arith, m, r, e, a)

pub number_placed : (signals : List Signal) (b : BitRef) → is_bit (signal_lengths signals) b ≡ true
    → (number (signal_lengths signals) b < length (bits_of_signals 0 signals)) × (named_bit (bits_of_signals 0 signals) (number (signal_lengths signals) b) ≡ b)
number_placed signals b h =
    let vs = signal_lengths signals in
    let l = below_is b.bit (get_or vs b.signal 0) h in
    let m = many_signals 0 signals in
    let n = number_below vs b.signal b.bit l in
    (omega (arith, m, n), placed 0 signals b.signal b.bit (bit 0 0) l ∙ ap (λ s. bit s b.bit) (let e : 0 + b.signal ≡ b.signal = omega arith in e))

-- the numbers of a signal's bits are below those of each later signal's
signals_below : (vs : List ℕ) (s k t : ℕ) → k < get_or vs s 0 → s < t → sum (take s vs) + k < sum (take t vs)
signals_below [] s k t h l = absurd (omega arith)
signals_below (v ∷ vs) zero k zero h l = absurd (omega (arith, l))
signals_below (v ∷ vs) zero k (suc t) h l = let a = sum_first v (take t vs) in let q : k < v = h in let e : sum (take (suc t) (v ∷ vs)) ≡ sum (v ∷ take t vs) = refl in omega (arith, a, q, e)
signals_below (v ∷ vs) (suc s) k zero h l = absurd (omega (arith, l))
signals_below (v ∷ vs) (suc s) k (suc t) h l =
    let r = signals_below vs s k t h (omega (arith, l)) in let a = sum_first v (take s vs) in let b = sum_first v (take t vs) in
    let e : sum (take (suc s) (v ∷ vs)) ≡ sum (v ∷ take s vs) = refl in let g : sum (take (suc t) (v ∷ vs)) ≡ sum (v ∷ take t vs) = refl in omega (arith, r, a, b, e, g)

pub number_before : (vs : List ℕ) (a b : BitRef) → is_bit vs a ≡ true → (a.signal < b.signal) ⊎ ((a.signal ≡ b.signal) × (a.bit < b.bit)) → number vs a < number vs b
number_before vs a b h (inl l) = let r = signals_below vs a.signal a.bit b.signal (below_is a.bit (get_or vs a.signal 0) h) l in omega (arith, r)
number_before vs a b h (inr p) = let e = ap (λ s. sum (take s vs)) p.0 in let l = p.1 in omega (arith, e, l)
