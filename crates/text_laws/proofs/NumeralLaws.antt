-- The numbers that are read of words are those that the words say.
use Rattle.std.proofs.Common.{◌≡◌, ◌≢◌, ◌<◌, ◌&&◌, ℕ, zero, suc, ℤ, pos, negsuc, Bool, true, false, cond, eqb, ltb, List, [], ◌∷◌, length, Option, Some, None, arith, refl, sym, ap, ap₂, ◌∙◌, subst}
use Rattle.std.specs.Prelude.{codes}
use Rattle.std.specs.Str.{all_ascii_digits, bytes_eq}
use Rattle.std.specs.Str.Parse.{digits_value}
use Rattle.std.specs.Char.{is_ascii_digit}
use Rattle.std.specs.Int.{IsInRange}
use Rattle.std.specs.Int.RustNames.{unsigned_abs}
use Rattle.std.proofs.lemmas.Bool.{cond-true, cond-false, lt-ltb, ltb-true, ne_eqb, eqb-true, and_parts}
use lib.IntN.{neg_ℤ}
use Rattle.cnf_core.specs.Numbers.{is_full, number_below, negative, positive, integer_below}
use Rattle.cnf_core.proofs.NumberLaws.{number_said, digit_range}
use Rattle.text_laws.specs.Numerals.{IsDecimal, SaysInteger}

pub full_length : (w : List ℕ) → w ≢ [] → 0 < length w
full_length [] h = absurd (h refl)
full_length (b ∷ bs) h = omega arith

not_nil : (w : List ℕ) → is_full w ≡ true → w ≢ []
not_nil [] h = absurd cc
not_nil (b ∷ bs) h = λ e. absurd cc

gate : (f a l : Bool) (v n : ℕ) → cond (f && a && l) (Some v) None ≡ Some n → (f ≡ true) × (a ≡ true) × (l ≡ true) × (v ≡ n)
gate true true true v n e = (refl, refl, refl, cc)
gate true true false v n e = absurd cc
gate true false l v n e = absurd cc
gate false a l v n e = absurd cc

pub decimal_from : (bound : ℕ) (w : List ℕ) (n : ℕ) → number_below bound w ≡ Some n → IsDecimal w n × (n < bound)
decimal_from bound w n e =
    let g = gate (is_full w) (all_ascii_digits w) (ltb (digits_value 10 w) bound) (digits_value 10 w) n e in
    let less : digits_value 10 w < bound = ltb-true (digits_value 10 w) bound g.2 in
    (record { full = not_nil w g.0; digits = g.1; value = g.3 }, omega (arith, less, g.3))

pub decimal_to : (bound : ℕ) (w : List ℕ) (n : ℕ) → IsDecimal w n → n < bound → number_below bound w ≡ Some n
decimal_to bound w n d lt =
    number_said bound w (full_length w d.full) d.digits
    ∙ cond-true (ltb (digits_value 10 w) bound) (Some (digits_value 10 w)) None (lt-ltb (digits_value 10 w) bound (let v = d.value in omega (arith, lt, v)))
    ∙ ap Some d.value

-- a word of digits does not begin with `-`
first_digit : (b : ℕ) (bs : List ℕ) (n : ℕ) → IsDecimal (b ∷ bs) n → IsInRange 48 57 b
first_digit b bs n d = digit_range b (and_parts (is_ascii_digit b) (all_ascii_digits bs) d.digits).0

positive_from : (bound : ℕ) (w : List ℕ) (z : ℤ) (o : Option ℕ) → number_below bound w ≡ o → positive o ≡ Some z → SaysInteger w z × (unsigned_abs z < bound)
positive_from bound w z None h e = absurd cc
positive_from bound w (pos m) (Some n) h e = let same : n ≡ m = cc in decimal_from bound w m (h ∙ ap Some same)
positive_from bound w (negsuc m) (Some n) h e = absurd cc

below_zero : (n : ℕ) (z : ℤ) → cond (eqb (suc n) 0) None (Some (neg_ℤ (pos (suc n)))) ≡ Some z → negsuc n ≡ z
below_zero n z e =
    let same : Some (negsuc n) ≡ Some z = sym (cond-false (eqb (suc n) 0) None (Some (negsuc n)) (ne_eqb (suc n) 0 (λ h. omega (arith, h)))) ∙ e in
    cc

negative_from : (bound : ℕ) (w : List ℕ) (z : ℤ) (o : Option ℕ) → number_below bound w ≡ o → negative o ≡ Some z → SaysInteger (45 ∷ w) z × (unsigned_abs z < bound)
negative_from bound w z None h e = absurd cc
negative_from bound w z (Some zero) h e = absurd cc
negative_from bound w z (Some (suc n)) h e =
    let d = decimal_from bound w (suc n) h in
    subst (λ (y : ℤ). SaysInteger (45 ∷ w) y × (unsigned_abs y < bound)) (below_zero n z e) ((w, refl, d.0), d.1)

sign_from : (bound b : ℕ) (bs : List ℕ) (z : ℤ) (t : Bool) → eqb b 45 ≡ t → cond t (negative (number_below bound bs)) (positive (number_below bound (b ∷ bs))) ≡ Some z → SaysInteger (b ∷ bs) z × (unsigned_abs z < bound)
sign_from bound b bs z true t e =
    subst (λ (x : ℕ). SaysInteger (x ∷ bs) z × (unsigned_abs z < bound)) (sym (eqb-true b 45 t)) (negative_from bound bs z (number_below bound bs) refl e)
sign_from bound b bs z false t e = positive_from bound (b ∷ bs) z (number_below bound (b ∷ bs)) refl e

pub integer_from : (bound : ℕ) (w : List ℕ) (z : ℤ) → integer_below bound w ≡ Some z → SaysInteger w z × (unsigned_abs z < bound)
integer_from bound [] z e = absurd cc
integer_from bound (b ∷ bs) z e = sign_from bound b bs z (eqb b 45) refl e

pub integer_to : (bound : ℕ) (w : List ℕ) (z : ℤ) → SaysInteger w z → unsigned_abs z < bound → integer_below bound w ≡ Some z
integer_to bound [] (pos n) d lt = absurd (d.full refl)
integer_to bound (b ∷ bs) (pos n) d lt =
    let r = first_digit b bs n d in
    cond-false (eqb b 45) (negative (number_below bound bs)) (positive (number_below bound (b ∷ bs))) (ne_eqb b 45 (λ e. let low = r.0 in omega (arith, low, e)))
    ∙ ap positive (decimal_to bound (b ∷ bs) n d lt)
integer_to bound w (negsuc n) d lt =
    ap (integer_below bound) d.1
    ∙ ap negative (decimal_to bound d.0 (suc n) d.2 lt)
    ∙ cond-false (eqb (suc n) 0) None (Some (negsuc n)) (ne_eqb (suc n) 0 (λ e. omega (arith, e)))

-- a number is not the word `d`
pub not_d : (w : List ℕ) (z : ℤ) → SaysInteger w z → bytes_eq w (codes "d") ≡ false
not_d [] (pos n) d = absurd (d.full refl)
not_d (b ∷ bs) (pos n) d = let r = first_digit b bs n d in ap (λ (x : Bool). x && bytes_eq bs []) (ne_eqb b 100 (λ e. let high = r.1 in omega (arith, high, e)))
not_d w (negsuc n) d = ap (λ (x : List ℕ). bytes_eq x (codes "d")) d.1 ∙ ap (λ (x : Bool). x && bytes_eq d.0 []) (ne_eqb 45 100 (λ e. omega (arith, e)))

pub same_bytes : (xs ys : List ℕ) → bytes_eq xs ys ≡ true → xs ≡ ys
same_bytes [] [] h = refl
same_bytes [] (y ∷ ys) h = absurd cc
same_bytes (x ∷ xs) [] h = absurd cc
same_bytes (x ∷ xs) (y ∷ ys) h = let p = and_parts (eqb x y) (bytes_eq xs ys) h in ap₂ (λ (b : ℕ) (bs : List ℕ). b ∷ bs) (eqb-true x y p.0) (same_bytes xs ys p.1)
