-- A number is read by its form.
use Rattle.std.proofs.Common.{◌≡◌, ℕ, ◌+◌, ◌<◌, ◌==◌, nat_lt, Bool, true, false, ◌&&◌, inl, inr, if◌then◌else◌, [], ◌∷◌, ◌++◌, length, take, drop, refl, ap, sym, ◌∙◌, subst, append_assoc, arith}
use Rattle.std.specs.List.{prefix_len, list_all}
use Rattle.std.proofs.Math.Seq.{take-append_seam, drop-append_seam, drop-append-add}
use Rattle.std.proofs.lemmas.List.{length-append, append-nil}
use Rattle.std.proofs.lemmas.Bool.Decides.{nat_tests}
use Rattle.vl_lex.specs.Bytes.{Text, first, is_space, is_digit, is_decimal, is_based, is_sign, is_base}
use Rattle.vl_lex.specs.Forms.{begins, IsBlank, blank_none, blank_space, blank_join, blank_return, is_decimal_number, is_base_mark, IsSize, IsValue, IsBasedNumber}
use Rattle.vl_lex.specs.Numbers.{before_tick, is_between, behind_blanks, base_of, value_from, has_base, size_text, size_value, mark_text, behind_sign, base_text, is_signed, base_in, digits_in}
use Rattle.lex_laws.specs.Parts.{has_sign, letter_of, IsRead, IsDecimal}

both : (a b : Bool) → (a && b) ≡ true → (a ≡ true) × (b ≡ true)
both true b h = (refl, h)
both false b h = absurd (cc)

pair : (a b : Bool) → a ≡ true → b ≡ true → (a && b) ≡ true
pair a b p q = rw p q

-- a run is passed over whole
past_run : (p : ℕ → Bool) (xs rest : Text) → list_all p xs ≡ true → prefix_len p (xs ++ rest) ≡ length xs + prefix_len p rest
past_run p [] rest all = omega arith
past_run p (x ∷ xs) rest all =
    let b = both (p x) (list_all p xs) all in
    let e : prefix_len p (x ∷ (xs ++ rest)) ≡ 1 + prefix_len p (xs ++ rest) = rw b.0 refl in
    omega (arith, e, past_run p xs rest b.1)

stops_at : (p : ℕ → Bool) (x : ℕ) (xs : Text) → p x ≡ false → prefix_len p (x ∷ xs) ≡ 0
stops_at p x xs e = rw e refl

-- runs of bytes
all_in : (p q : ℕ → Bool) (xs : Text) → ((b : ℕ) → p b ≡ true → q b ≡ true) → list_all p xs ≡ true → list_all q xs ≡ true
all_in p q [] sub all = refl
all_in p q (x ∷ xs) sub all = let b = both (p x) (list_all p xs) all in pair (q x) (list_all q xs) (sub x b.0) (all_in p q xs sub b.1)

run_in : (p r q : ℕ → Bool) (xs : Text) → ((b : ℕ) → p b ≡ true → q b ≡ true) → ((b : ℕ) → r b ≡ true → q b ≡ true) → begins p r xs ≡ true → list_all q xs ≡ true
run_in p r q [] head tail all = refl
run_in p r q (x ∷ xs) head tail all = let b = both (p x) (list_all r xs) all in pair (q x) (list_all q xs) (head x b.0) (all_in r q xs tail b.1)

digit_before : (b : ℕ) → is_digit b ≡ true → before_tick b ≡ true
digit_before b h = grind (arith, nat_tests)

decimal_before : (b : ℕ) → is_decimal b ≡ true → before_tick b ≡ true
decimal_before b h = grind (arith, nat_tests)

digit_based : (b : ℕ) → is_digit b ≡ true → is_based b ≡ true
digit_based b h = grind (arith, nat_tests)

decimal_based : (b : ℕ) → is_decimal b ≡ true → is_based b ≡ true
decimal_based b h = grind (arith, nat_tests)

space_before : (b : ℕ) → is_space b ≡ true → before_tick b ≡ true
space_before b h = grind (arith, nat_tests)

space_between : (b : ℕ) → is_space b ≡ true → is_between b ≡ true
space_between b h = grind (arith, nat_tests)

between_unbased : (b : ℕ) → is_between b ≡ true → is_based b ≡ false
between_unbased b h = grind (arith, nat_tests)

based_stops : (b : ℕ) → is_based b ≡ true → is_between b ≡ false
based_stops b h = rw h refl

base_unsigned : (b : ℕ) → is_base b ≡ true → is_sign b ≡ false
base_unsigned b h = grind (arith, nat_tests)

is_byte : (a b : ℕ) → (a == b) ≡ true → a ≡ b
is_byte a b h = grind (arith, nat_tests)

blank_before : (bs : Text) → IsBlank bs → list_all before_tick bs ≡ true
blank_before _ blank_none = refl
blank_before _ (blank_space {b = b} {bs = bs} is more) = pair (before_tick b) (list_all before_tick bs) (space_before b is) (blank_before bs more)
blank_before _ (blank_join {bs = bs} more) = blank_before bs more
blank_before _ (blank_return {bs = bs} more) = blank_before bs more

blank_between : (bs : Text) → IsBlank bs → list_all is_between bs ≡ true
blank_between _ blank_none = refl
blank_between _ (blank_space {b = b} {bs = bs} is more) = pair (is_between b) (list_all is_between bs) (space_between b is) (blank_between bs more)
blank_between _ (blank_join {bs = bs} more) = blank_between bs more
blank_between _ (blank_return {bs = bs} more) = blank_between bs more

no_based : (bs : Text) → list_all is_between bs ≡ true → prefix_len is_based bs ≡ 0
no_based [] all = refl
no_based (b ∷ bs) all = stops_at is_based b bs (between_unbased b (both (is_between b) (list_all is_between bs) all).0)

size_before : (size blank : Text) → IsSize size blank → list_all before_tick size ≡ true
size_before size blank (inl is) = run_in is_digit is_decimal before_tick size digit_before decimal_before is
size_before size blank (inr none) = rw none.0 refl

size_based : (size blank : Text) → IsSize size blank → list_all is_based size ≡ true
size_based size blank (inl is) = run_in is_digit is_decimal is_based size digit_based decimal_based is
size_based size blank (inr none) = rw none.0 refl

all_both : (p : ℕ → Bool) (xs ys : Text) → list_all p xs ≡ true → list_all p ys ≡ true → list_all p (xs ++ ys) ≡ true
all_both p [] ys a b = b
all_both p (x ∷ xs) ys a b = let t = both (p x) (list_all p xs) a in pair (p x) (list_all p (xs ++ ys)) t.0 (all_both p xs ys t.1 b)

-- the digits behind white space
digits_left : (blank digits : Text) → IsBlank blank → IsValue blank digits → behind_blanks (blank ++ digits) ≡ digits
digits_left blank [] is (inl all) = absurd (cc)
digits_left blank (x ∷ xs) is (inl all) =
    let stop = stops_at is_between x xs (based_stops x (both (is_based x) (list_all is_based xs) all).0) in
    let len : prefix_len is_between (blank ++ x ∷ xs) ≡ length blank = omega (arith, past_run is_between blank (x ∷ xs) (blank_between blank is), stop) in
    ap (λ n. drop n (blank ++ x ∷ xs)) len ∙ drop-append_seam blank (x ∷ xs)
digits_left blank digits is (inr none) = rw (none.0, none.1) refl

below : (a b : ℕ) → a < b → nat_lt a b ≡ true
below a b h = grind (arith, nat_tests)

not_below : (a b : ℕ) → a ≡ b → nat_lt a b ≡ false
not_below a b h = grind (arith, nat_tests)

-- a text with a quote behind bytes that are none
module _ (front tail : Text) (all : list_all before_tick front ≡ true) where
  quote_at : prefix_len before_tick (front ++ 39 ∷ tail) ≡ length front
  quote_at = let stop = stops_at before_tick 39 tail refl in omega (arith, past_run before_tick front (39 ∷ tail) all, stop)

  there : has_base (front ++ 39 ∷ tail) ≡ true
  there = below (prefix_len before_tick (front ++ 39 ∷ tail)) (length (front ++ 39 ∷ tail)) (omega (arith, quote_at, length-append front (39 ∷ tail)))

  size_there : size_text (front ++ 39 ∷ tail) ≡ front
  size_there = ap (λ n. take n (front ++ 39 ∷ tail)) quote_at ∙ take-append_seam front (39 ∷ tail)

  mark_there : mark_text (front ++ 39 ∷ tail) ≡ tail
  mark_there = ap (λ n. drop (n + 1) (front ++ 39 ∷ tail)) quote_at ∙ drop-append-add front (39 ∷ tail) 1

  sign_there : is_signed (front ++ 39 ∷ tail) ≡ is_sign (first tail)
  sign_there = ap (λ z. if z then is_sign (first (mark_text (front ++ 39 ∷ tail))) else true) there ∙ ap (λ z. is_sign (first z)) mark_there

  base_there : (letter : ℕ) (rest : Text) → behind_sign tail ≡ letter ∷ rest → base_in (front ++ 39 ∷ tail) ≡ base_of letter
  base_there letter rest e =
      ap (λ z. if z then base_of (first (base_text (front ++ 39 ∷ tail))) else 10) there ∙ (ap (λ z. base_of (first (behind_sign z))) mark_there ∙ ap (λ z. base_of (first z)) e)

  digits_there : (letter : ℕ) (rest : Text) → behind_sign tail ≡ letter ∷ rest → digits_in (front ++ 39 ∷ tail) ≡ behind_blanks rest
  digits_there letter rest e =
      ap (λ z. if z then behind_blanks (drop 1 (base_text (front ++ 39 ∷ tail))) else (front ++ 39 ∷ tail)) there
      ∙ (ap (λ z. behind_blanks (drop 1 (behind_sign z))) mark_there ∙ ap (λ z. behind_blanks (drop 1 z)) e)

size_left : (size blank : Text) → IsSize size blank → IsBlank blank → size_value (size ++ blank) ≡ value_from 10 0 size
size_left size blank sized is =
    let len : prefix_len is_based (size ++ blank) ≡ length size = omega (arith, past_run is_based size blank (size_based size blank sized), no_based blank (blank_between blank is)) in
    ap (λ n. value_from 10 0 (take n (size ++ blank))) len ∙ ap (λ z. value_from 10 0 z) (take-append_seam size blank)

record Parts (text size digits : Text) (letter : ℕ) (signed : Bool) : Type 0 where
  based : has_base text ≡ true
  size_is : size_value (size_text text) ≡ value_from 10 0 size
  sign_is : is_signed text ≡ signed
  base_is : base_in text ≡ base_of letter
  digits_are : digits_in text ≡ digits

-- what is read where the quote is followed so
parts_at : (size blank tail rest digits : Text) (letter : ℕ) (signed : Bool) → IsSize size blank → IsBlank blank
    → is_sign (first tail) ≡ signed → behind_sign tail ≡ letter ∷ rest → behind_blanks rest ≡ digits → Parts ((size ++ blank) ++ 39 ∷ tail) size digits letter signed
parts_at size blank tail rest digits letter signed sized is sign base behind =
    let all = all_both before_tick size blank (size_before size blank sized) (blank_before blank is) in
    record {
      based = there (size ++ blank) tail all;
      size_is = ap size_value (size_there (size ++ blank) tail all) ∙ size_left size blank sized is;
      sign_is = sign_there (size ++ blank) tail all ∙ sign;
      base_is = base_there (size ++ blank) tail all letter rest base;
      digits_are = digits_there (size ++ blank) tail all letter rest base ∙ behind;
    }

joined : (size blank tail : Text) (quote : ℕ) → (quote == 39) ≡ true → size ++ (blank ++ quote ∷ tail) ≡ (size ++ blank) ++ 39 ∷ tail
joined size blank tail quote e = sym (append_assoc size blank (quote ∷ tail)) ∙ ap (λ z. (size ++ blank) ++ z ∷ tail) (is_byte quote 39 e)

unsigned_base : (b : ℕ) (bs : Text) → is_base b ≡ true → behind_sign (b ∷ bs) ≡ b ∷ bs
unsigned_base b bs is = rw (base_unsigned b is) refl

signed_base : (b c : ℕ) (bs : Text) → is_sign b ≡ true → behind_sign (b ∷ c ∷ bs) ≡ c ∷ bs
signed_base b c bs is = rw is refl

of_mark : (size before mark behind digits : Text) → IsSize size before → IsBlank before → is_base_mark mark ≡ true → IsBlank behind → IsValue behind digits
    → Parts (size ++ (before ++ (mark ++ (behind ++ digits)))) size digits (letter_of mark) (has_sign mark)
of_mark size before [] behind digits sized blank is blank_behind valued = absurd (cc)
of_mark size before (a ∷ []) behind digits sized blank is blank_behind valued = absurd (cc)
of_mark size before (a ∷ b ∷ []) behind digits sized blank is blank_behind valued =
    let q = both (a == 39) (is_base b) is in
    subst (λ z. Parts z size digits b false) (sym (joined size before (b ∷ (behind ++ digits)) a q.0))
    (parts_at size before (b ∷ (behind ++ digits)) (behind ++ digits) digits b false sized blank (base_unsigned b q.1) (unsigned_base b (behind ++ digits) q.1) (digits_left behind digits blank_behind valued))
of_mark size before (a ∷ b ∷ c ∷ []) behind digits sized blank is blank_behind valued =
    let q = both (a == 39) (is_sign b && is_base c) is in
    let t = both (is_sign b) (is_base c) q.1 in
    subst (λ z. Parts z size digits c true) (sym (joined size before (b ∷ c ∷ (behind ++ digits)) a q.0))
    (parts_at size before (b ∷ c ∷ (behind ++ digits)) (behind ++ digits) digits c true sized blank t.0 (signed_base b c (behind ++ digits) t.0) (digits_left behind digits blank_behind valued))
of_mark size before (a ∷ b ∷ c ∷ d ∷ mark) behind digits sized blank is blank_behind valued = absurd (cc)

pub based_is_read : (text : Text) (form : IsBasedNumber text) → IsRead text form
based_is_read text form =
    let p = subst (λ z. Parts z form.size form.digits (letter_of form.mark) (has_sign form.mark)) (sym form.whole)
    (of_mark form.size form.before form.mark form.behind form.digits form.sized form.blank_before form.based form.blank_behind form.valued) in
    record {
      based = p.based;
      size = p.size_is;
      sign = p.sign_is;
      base = p.base_is;
      digits = p.digits_are;
      value = ap (λ z. value_from z 0 (digits_in text)) p.base_is ∙ ap (λ z. value_from (base_of (letter_of form.mark)) 0 z) p.digits_are;
    }

pub decimal_is_read : (text : Text) → is_decimal_number text ≡ true → IsDecimal text
decimal_is_read text is =
    let all = run_in is_digit is_decimal before_tick text digit_before decimal_before is in
    let len : prefix_len before_tick text ≡ length text = ap (prefix_len before_tick) (sym (append-nil text)) ∙ omega (arith, past_run before_tick text [] all) in
    let none : has_base text ≡ false = not_below (prefix_len before_tick text) (length text) len in
    let base : base_in text ≡ 10 = ap (λ z. if z then base_of (first (base_text text)) else 10) none in
    let digits : digits_in text ≡ text = ap (λ z. if z then behind_blanks (drop 1 (base_text text)) else text) none in
    record {
      based = none;
      sign = ap (λ z. if z then is_sign (first (mark_text text)) else true) none;
      base = base;
      digits = digits;
      value = ap (λ z. value_from z 0 (digits_in text)) base ∙ ap (λ z. value_from 10 0 z) digits;
    }
