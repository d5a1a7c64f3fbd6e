-- Words and numbers that are written are read back.
use Rattle.std.proofs.Common.{◌≡◌, ℕ, ◌<◌, ◌≤◌, ◌^◌, Bool, true, false, eqb, ltb, ◌||◌, List, [], ◌∷◌, ◌++◌, map, length, arith, refl, sym, ap, ap₂, ◌∙◌, Some, None, ℤ, pos, negsuc, suc, append_assoc}
use Rattle.std.specs.Int.RustNames.{unsigned_abs}
use lib.IntN.{neg_ℤ}
use Rattle.std.specs.Char.{is_ascii_digit}
use Rattle.std.specs.Int.{IsInRange}
use Rattle.std.specs.Str.{all_ascii_digits}
use Rattle.std.specs.Str.Parse.{digits_value}
use Rattle.std.specs.Fmt.{decimal, signed_decimal}
use Rattle.std.proofs.lemmas.Str.Parse.{IsNumeralModel, numerals_by_value, tells_all_ascii_digits}
use Rattle.std.proofs.lemmas.Fmt.{digits_decimal, digits_value-decimal, decimal_nonempty, decimal_digit}
use Rattle.std.proofs.lemmas.Bool.{cond-true, cond-false, ne_eqb, lt-ltb, and_parts}
use Rattle.cnf_core.specs.Text.{is_newline, is_blank, onto_first, parts, onto_full, full_parts, words_of, is_comment}
use Rattle.cnf_core.specs.Numbers.{number_below, integer_below, negative, positive, numbers_text, AllFit}
use Rattle.cnf_core.proofs.NumberLaws.{number_said, digit_range}

-- no byte of the list ends a part
abbrev pub NoneEnds : (ℕ → Bool) → List ℕ → Type 0
NoneEnds p [] = Unit {0}
NoneEnds p (b ∷ bs) = (p b ≡ false) × NoneEnds p bs

pub none_append : (p : ℕ → Bool) (xs ys : List ℕ) → NoneEnds p xs → NoneEnds p ys → NoneEnds p (xs ++ ys)
none_append p [] ys h k = k
none_append p (x ∷ xs) ys h k = (h.0, none_append p xs ys h.1 k)

pub parts_at : (p : ℕ → Bool) (w : List ℕ) (e : ℕ) (rest : List ℕ) → NoneEnds p w → p e ≡ true → parts p (w ++ e ∷ rest) ≡ w ∷ parts p rest
parts_at p [] e rest h t = cond-true (p e) ([] ∷ parts p rest) (onto_first e (parts p rest)) t
parts_at p (b ∷ bs) e rest h t =
    cond-false (p b) ([] ∷ parts p (bs ++ e ∷ rest)) (onto_first b (parts p (bs ++ e ∷ rest))) h.0
    ∙ ap (onto_first b) (parts_at p bs e rest h.1 t)

pub parts_last : (p : ℕ → Bool) (w : List ℕ) → NoneEnds p w → 0 < length w → parts p w ≡ w ∷ []
parts_last p [] h full = absurd (omega arith)
parts_last p (b ∷ []) h full = cond-false (p b) ([] ∷ []) (onto_first b []) h.0
parts_last p (b ∷ d ∷ ds) h full =
    cond-false (p b) ([] ∷ parts p (d ∷ ds)) (onto_first b (parts p (d ∷ ds))) h.0 ∙ ap (onto_first b) (parts_last p (d ∷ ds) h.1 (omega arith))

full_word : (w : List ℕ) (ws : List (List ℕ)) → 0 < length w → onto_full w ws ≡ w ∷ ws
full_word [] ws h = absurd (omega arith)
full_word (b ∷ bs) ws h = refl

pub words_cons : (w rest : List ℕ) → NoneEnds is_blank w → 0 < length w → words_of (w ++ 32 ∷ rest) ≡ w ∷ words_of rest
words_cons w rest h full = ap full_parts (parts_at is_blank w 32 rest h refl) ∙ full_word w (words_of rest) full

pub words_one : (w : List ℕ) → NoneEnds is_blank w → 0 < length w → words_of w ≡ w ∷ []
words_one w h full = ap full_parts (parts_last is_blank w h full) ∙ full_word w [] full

own : IsNumeralModel (λ ds. all_ascii_digits ds ≡ true) (digits_value 10)
own = numerals_by_value (λ ds. all_ascii_digits ds ≡ true) tells_all_ascii_digits

pub decimal_digits : (n : ℕ) → n < 2 ^ 64 → all_ascii_digits (decimal n) ≡ true
decimal_digits n h = digits_decimal own n h

pub decimal_value : (n : ℕ) → n < 2 ^ 64 → digits_value 10 (decimal n) ≡ n
decimal_value n h = digits_value-decimal own n h

digit_no_blank : (b : ℕ) → is_ascii_digit b ≡ true → is_blank b ≡ false
digit_no_blank b h =
    let r = digit_range b h in
    let low = r.0 in
    ap₂ (λ (x y : Bool). x || y) (ap₂ (λ (x y : Bool). x || y) (ne_eqb b 32 (λ e. omega arith)) (ne_eqb b 9 (λ e. omega arith))) (ne_eqb b 13 (λ e. omega arith))

digit_no_newline : (b : ℕ) → is_ascii_digit b ≡ true → is_newline b ≡ false
digit_no_newline b h = let r = digit_range b h in let low = r.0 in ne_eqb b 10 (λ e. omega arith)

digits_no_blank : (w : List ℕ) → all_ascii_digits w ≡ true → NoneEnds is_blank w
digits_no_blank [] h = tt
digits_no_blank (b ∷ bs) h = let p = and_parts (is_ascii_digit b) (all_ascii_digits bs) h in (digit_no_blank b p.0, digits_no_blank bs p.1)

digits_no_newline : (w : List ℕ) → all_ascii_digits w ≡ true → NoneEnds is_newline w
digits_no_newline [] h = tt
digits_no_newline (b ∷ bs) h = let p = and_parts (is_ascii_digit b) (all_ascii_digits bs) h in (digit_no_newline b p.0, digits_no_newline bs p.1)

pub decimal_no_blank : (n : ℕ) → n < 2 ^ 64 → NoneEnds is_blank (decimal n)
decimal_no_blank n h = digits_no_blank (decimal n) (decimal_digits n h)

pub decimal_no_newline : (n : ℕ) → n < 2 ^ 64 → NoneEnds is_newline (decimal n)
decimal_no_newline n h = digits_no_newline (decimal n) (decimal_digits n h)

pub decimal_said : (bound n : ℕ) → n < bound → n < 2 ^ 64 → number_below bound (decimal n) ≡ Some n
decimal_said bound n lt small =
    let v = decimal_value n small in
    number_said bound (decimal n) (decimal_nonempty n small) (decimal_digits n small)
    ∙ cond-true (ltb (digits_value 10 (decimal n)) bound) (Some (digits_value 10 (decimal n))) None (lt-ltb (digits_value 10 (decimal n)) bound (omega arith))
    ∙ ap Some v

-- a text that begins with a digit
abbrev pub BeginsWithDigit : List ℕ → Type 0
BeginsWithDigit [] = ⊥
BeginsWithDigit (b ∷ bs) = IsInRange 48 57 b

begins_by : (w : List ℕ) → 0 < length w → all_ascii_digits w ≡ true → BeginsWithDigit w
begins_by [] h d = omega arith
begins_by (b ∷ bs) h d = digit_range b (and_parts (is_ascii_digit b) (all_ascii_digits bs) d).0

pub decimal_begins : (n : ℕ) → n < 2 ^ 64 → BeginsWithDigit (decimal n)
decimal_begins n h = begins_by (decimal n) (decimal_nonempty n h) (decimal_digits n h)

positive_by : (bound : ℕ) (w : List ℕ) → BeginsWithDigit w → integer_below bound w ≡ positive (number_below bound w)
positive_by bound [] h = absurd h
positive_by bound (b ∷ bs) h = cond-false (eqb b 45) (negative (number_below bound bs)) (positive (number_below bound (b ∷ bs))) (ne_eqb b 45 (λ e. let low = h.0 in omega arith))

pub integer_said : (bound : ℕ) (z : ℤ) → unsigned_abs z < bound → bound ≤ 2 ^ 63 → integer_below bound (signed_decimal z) ≡ Some z
integer_said bound (pos n) lt small =
    positive_by bound (decimal n) (decimal_begins n (omega arith)) ∙ ap positive (decimal_said bound n lt (omega arith))
integer_said bound (negsuc n) lt small =
    ap negative (decimal_said bound (suc n) lt (omega arith))
    ∙ cond-false (eqb (suc n) 0) None (Some (neg_ℤ (pos (suc n)))) (ne_eqb (suc n) 0 (λ e. omega arith))

pub zero_said : (bound : ℕ) → 0 < bound → bound ≤ 2 ^ 63 → integer_below bound (48 ∷ []) ≡ Some (pos 0)
zero_said bound full small = ap (integer_below bound) (sym (decimal_digit 0 (omega arith))) ∙ integer_said bound (pos 0) full small

pub signed_no_blank : (z : ℤ) → unsigned_abs z < 2 ^ 63 → NoneEnds is_blank (signed_decimal z)
signed_no_blank (pos n) lt = decimal_no_blank n (omega arith)
signed_no_blank (negsuc n) lt = (refl, decimal_no_blank (suc n) (omega arith))

pub signed_no_newline : (z : ℤ) → unsigned_abs z < 2 ^ 63 → NoneEnds is_newline (signed_decimal z)
signed_no_newline (pos n) lt = decimal_no_newline n (omega arith)
signed_no_newline (negsuc n) lt = (refl, decimal_no_newline (suc n) (omega arith))

pub signed_full : (z : ℤ) → unsigned_abs z < 2 ^ 63 → 0 < length (signed_decimal z)
signed_full (pos n) lt = decimal_nonempty n (omega arith)
signed_full (negsuc n) lt = omega arith

-- a text that begins with a digit or `-`
abbrev pub BeginsNumber : List ℕ → Type 0
BeginsNumber [] = ⊥
BeginsNumber (b ∷ bs) = (45 ≤ b) × (b ≤ 57)

number_begins_by : (w : List ℕ) → BeginsWithDigit w → BeginsNumber w
number_begins_by [] h = h
number_begins_by (b ∷ bs) h = (let l = h.0 in omega arith, let u = h.1 in omega arith)

pub signed_begins : (z : ℤ) → unsigned_abs z < 2 ^ 63 → BeginsNumber (signed_decimal z)
signed_begins (pos n) lt = number_begins_by (decimal n) (decimal_begins n (omega arith))
signed_begins (negsuc n) lt = (omega arith, omega arith)

pub begins_more : (xs ys : List ℕ) → BeginsNumber xs → BeginsNumber (xs ++ ys)
begins_more [] ys h = absurd h
begins_more (x ∷ xs) ys h = h

pub no_comment : (w : List ℕ) → BeginsNumber w → is_comment w ≡ false
no_comment [] h = absurd h
no_comment (b ∷ bs) h = let u = h.1 in ne_eqb b 99 (λ e. omega arith)

-- the words of numbers
pub number_words : (bound : ℕ) → bound ≤ 2 ^ 63 → (zs : List ℤ) (rest : List ℕ) → AllFit bound zs → words_of (numbers_text zs ++ 32 ∷ rest) ≡ map signed_decimal zs ++ (48 ∷ []) ∷ words_of rest
number_words bound small [] rest fit = words_cons (48 ∷ []) rest (refl, tt) (omega arith)
number_words bound small (z ∷ zs) rest fit =
    let lt : unsigned_abs z < 2 ^ 63 = let f = fit.1 in omega arith in
    ap words_of (append_assoc (signed_decimal z) (32 ∷ numbers_text zs) (32 ∷ rest))
    ∙ words_cons (signed_decimal z) (numbers_text zs ++ 32 ∷ rest) (signed_no_blank z lt) (signed_full z lt)
    ∙ ap (λ (ws : List (List ℕ)). signed_decimal z ∷ ws) (number_words bound small zs rest fit.2)

pub last_number_words : (bound : ℕ) → bound ≤ 2 ^ 63 → (zs : List ℤ) → AllFit bound zs → words_of (numbers_text zs) ≡ map signed_decimal zs ++ (48 ∷ []) ∷ []
last_number_words bound small [] fit = words_one (48 ∷ []) (refl, tt) (omega arith)
last_number_words bound small (z ∷ zs) fit =
    let lt : unsigned_abs z < 2 ^ 63 = let f = fit.1 in omega arith in
    words_cons (signed_decimal z) (numbers_text zs) (signed_no_blank z lt) (signed_full z lt)
    ∙ ap (λ (ws : List (List ℕ)). signed_decimal z ∷ ws) (last_number_words bound small zs fit.2)

pub numbers_no_newline : (bound : ℕ) → bound ≤ 2 ^ 63 → (zs : List ℤ) → AllFit bound zs → NoneEnds is_newline (numbers_text zs)
numbers_no_newline bound small [] fit = (refl, tt)
numbers_no_newline bound small (z ∷ zs) fit =
    let lt : unsigned_abs z < 2 ^ 63 = let f = fit.1 in omega arith in
    none_append is_newline (signed_decimal z) (32 ∷ numbers_text zs) (signed_no_newline z lt) (refl, numbers_no_newline bound small zs fit.2)

pub numbers_begin : (bound : ℕ) → bound ≤ 2 ^ 63 → (zs : List ℤ) → AllFit bound zs → BeginsNumber (numbers_text zs)
numbers_begin bound small [] fit = (omega arith, omega arith)
numbers_begin bound small (z ∷ zs) fit =
    let lt : unsigned_abs z < 2 ^ 63 = let f = fit.1 in omega arith in
    begins_more (signed_decimal z) (32 ∷ numbers_text zs) (signed_begins z lt)
