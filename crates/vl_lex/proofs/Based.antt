-- Numbers at the front of a text.
use Rattle.std.proofs.Common.{◌≡◌, ℕ, zero, suc, ◌+◌, ◌<◌, ◌≤◌, ◌==◌, nat_le, Bool, true, false, ◌&&◌, ◌⊎◌, inl, inr, [], ◌∷◌, ◌++◌, length, drop, refl, ap, sym, ◌∙◌, subst, append_assoc, arith}
use Rattle.std.proofs.Math.Seq.{drop-append_seam}
use Rattle.std.specs.List.{prefix_len, list_all}
use Rattle.std.proofs.lemmas.List.{length-append, drop-drop}
use Rattle.std.proofs.lemmas.Bool.Decides.{nat_tests}
use Rattle.vl_lex.specs.Bytes.{Text, first, is_space, is_digit, is_decimal, is_based, is_base, is_sign}
use Rattle.vl_lex.specs.Pieces.{blank_len, blanks, digits_len, base_len, number_len}
use Rattle.vl_lex.specs.Forms.{is_run, IsBlank, blank_none, blank_space, blank_join, blank_return, is_decimal_number, is_base_mark, IsValue, IsBasedNumber}
use Rattle.vl_lex.proofs.Runs.{on_if, both, pair, is_number, split_run, run_reaches, run_ends, no_blank, blank_reaches, split_blanks}

not_space : (b : ℕ) → nat_le 33 b ≡ true → is_space b ≡ false
not_space b h = grind (arith, nat_tests)

based_printed : (b : ℕ) → is_based b ≡ true → (nat_le 33 b ≡ true) × ((b == 92) ≡ false)
based_printed b h = (grind (arith, nat_tests), grind (arith, nat_tests))

-- no white space stands before a digit of a base
no_blank_based : (b : ℕ) (bs : Text) → is_based b ≡ true → blanks 0 (b ∷ bs) ≡ 0
no_blank_based b bs h =
    let p = based_printed b h in
    let s = not_space b p.0 in
    let e : blank_len (b ∷ bs) ≡ 0 = rw (s, p.1) refl in
    no_blank (b ∷ bs) e

-- what `digits_len` counts
digits_are : (bs : Text) (n m : ℕ) → blanks 0 bs ≡ n → prefix_len is_based (drop n bs) ≡ m → 0 < m → digits_len bs ≡ n + m
unfolding digits_len
digits_are bs n m e f h =
    let t : (m == 0) ≡ false = grind (arith, nat_tests) in
    rw (e, f, t) refl

no_digits : (bs : Text) → prefix_len is_based (drop (blanks 0 bs) bs) ≡ 0 → digits_len bs ≡ 0
unfolding digits_len
no_digits bs e = rw e refl

run_reach : (behind digits rest : Text) → IsBlank behind → is_run is_based digits ≡ true → length behind + length digits ≤ digits_len (behind ++ (digits ++ rest))
run_reach behind [] rest h d = absurd (cc)
run_reach behind (b ∷ bs) rest h d =
    let t = both (is_based b) (list_all is_based bs) d in
    let e : blanks 0 (behind ++ (b ∷ (bs ++ rest))) ≡ length behind = blank_reaches h (b ∷ (bs ++ rest)) ∙ omega (arith, no_blank_based b (bs ++ rest) t.0) in
    let m = run_reaches is_based (b ∷ bs) rest d in
    let f : prefix_len is_based (drop (length behind) (behind ++ (b ∷ (bs ++ rest)))) ≡ prefix_len is_based (b ∷ (bs ++ rest)) = ap (prefix_len is_based) (drop-append_seam behind (b ∷ (bs ++ rest))) in
    let all = digits_are (behind ++ (b ∷ (bs ++ rest))) (length behind) (prefix_len is_based (b ∷ (bs ++ rest))) e f (omega arith) in
    omega arith

pub digits_reach : (behind digits rest : Text) → IsBlank behind → IsValue behind digits → length behind + length digits ≤ digits_len (behind ++ (digits ++ rest))
digits_reach behind digits rest h (inl d) = run_reach behind digits rest h d
digits_reach behind digits rest h (inr e) = omega (arith, ap length e.0, ap length e.1)

not_base : (b : ℕ) → is_sign b ≡ true → is_base b ≡ false
not_base b h = grind (arith, nat_tests)

plain_base : (b : ℕ) (bs : Text) → is_base b ≡ true → base_len (39 ∷ b ∷ bs) ≡ 2 + digits_len bs
unfolding base_len
plain_base b bs e = rw e refl

signed_base : (b c : ℕ) (bs : Text) → is_base b ≡ false → is_sign b ≡ true → is_base c ≡ true → base_len (39 ∷ b ∷ c ∷ bs) ≡ 3 + digits_len bs
unfolding base_len
signed_base b c bs e f g = rw (e, f, g) refl

pub base_reaches : (mark behind digits rest : Text) → is_base_mark mark ≡ true → IsBlank behind → IsValue behind digits
    → length mark + (length behind + length digits) ≤ base_len (mark ++ (behind ++ (digits ++ rest)))
base_reaches (a ∷ b ∷ []) behind digits rest m h d =
    let t = both (a == 39) (is_base b) m in
    let e = plain_base b (behind ++ (digits ++ rest)) t.1 in
    subst (λ z. 2 + (length behind + length digits) ≤ base_len (z ∷ b ∷ (behind ++ (digits ++ rest)))) (sym (is_number a 39 t.0)) (omega (arith, e, digits_reach behind digits rest h d))
base_reaches (a ∷ b ∷ c ∷ []) behind digits rest m h d =
    let t = both (a == 39) (is_sign b && is_base c) m in
    let u = both (is_sign b) (is_base c) t.1 in
    let e = signed_base b c (behind ++ (digits ++ rest)) (not_base b u.0) u.0 u.1 in
    subst (λ z. 3 + (length behind + length digits) ≤ base_len (z ∷ b ∷ c ∷ (behind ++ (digits ++ rest)))) (sym (is_number a 39 t.0)) (omega (arith, e, digits_reach behind digits rest h d))
base_reaches _ behind digits rest m h d = absurd (cc)

pub mark_first : (mark rest : Text) → is_base_mark mark ≡ true → first (mark ++ rest) ≡ 39
mark_first (a ∷ b ∷ []) rest m = is_number a 39 (both (a == 39) (is_base b) m).0
mark_first (a ∷ b ∷ c ∷ []) rest m = is_number a 39 (both (a == 39) (is_sign b && is_base c) m).0
mark_first _ rest m = absurd (cc)

no_blank_tick : (bs : Text) → first bs ≡ 39 → blanks 0 bs ≡ 0
no_blank_tick [] e = absurd (omega arith)
no_blank_tick (b ∷ bs) e = let f : blank_len (b ∷ bs) ≡ 0 = rw e refl in no_blank (b ∷ bs) f

-- behind the digits of a size stands no further digit
blank_first : {before : Text} → IsBlank before → (rest : Text) → first rest ≡ 39 → is_decimal (first (before ++ rest)) ≡ false
blank_first blank_none rest e = rw e refl
blank_first (blank_space {b} e h) rest f = grind (arith, nat_tests)
blank_first (blank_join h) rest f = refl
blank_first (blank_return h) rest f = refl

digit_decimal : (b : ℕ) → is_digit b ≡ true → is_decimal b ≡ true
digit_decimal b h = rw h refl

-- the digits of a decimal number are a run
decimal_run : (size : Text) → is_decimal_number size ≡ true → (list_all is_decimal size ≡ true) × (0 < length size)
decimal_run [] h = absurd (cc)
decimal_run (b ∷ bs) h =
    let t = both (is_digit b) (list_all is_decimal bs) h in
    (pair (is_decimal b) (list_all is_decimal bs) (digit_decimal b t.0) t.1, omega arith)

-- what `number_len` counts
based_is : (bs : Text) (n m l : ℕ) → prefix_len is_decimal bs ≡ n → blanks 0 (drop n bs) ≡ m → base_len (drop (n + m) bs) ≡ l → 0 < l → number_len bs ≡ n + m + l
unfolding number_len
based_is bs n m l e f g h =
    let t : (l == 0) ≡ false = grind (arith, nat_tests) in
    rw (e, f, g, t) refl

pub plain_is : (bs : Text) (n m : ℕ) → prefix_len is_decimal bs ≡ n → blanks 0 (drop n bs) ≡ m → base_len (drop (n + m) bs) ≡ 0 → number_len bs ≡ n
unfolding number_len
plain_is bs n m e f g = rw (e, f, g) refl

pub more_digits : (bs : Text) → prefix_len is_decimal bs ≤ number_len bs
unfolding number_len
more_digits bs =
    on_if (λ z. prefix_len is_decimal bs ≤ z) (base_len (drop (prefix_len is_decimal bs + blanks 0 (drop (prefix_len is_decimal bs) bs)) bs) == 0) (prefix_len is_decimal bs) _
    (λ h. omega arith) (λ h. omega arith)

-- a number with a size is counted whole
pub sized_reaches : (size before mark behind digits rest : Text) → is_decimal_number size ≡ true → IsBlank before → is_base_mark mark ≡ true → IsBlank behind → IsValue behind digits
    → length size + (length before + (length mark + (length behind + length digits))) ≤ number_len (size ++ (before ++ (mark ++ (behind ++ (digits ++ rest)))))
sized_reaches size before mark behind digits rest s b m h d =
    let tail = mark ++ (behind ++ (digits ++ rest)) in
    let tick : first tail ≡ 39 = mark_first mark (behind ++ (digits ++ rest)) m in
    let run = decimal_run size s in
    let e : prefix_len is_decimal (size ++ (before ++ tail)) ≡ length size = run_ends is_decimal size (before ++ tail) run.0 (blank_first b tail tick) in
    let f : blanks 0 (drop (length size) (size ++ (before ++ tail))) ≡ length before =
    ap (blanks 0) (drop-append_seam size (before ++ tail)) ∙ (blank_reaches b tail ∙ omega (arith, no_blank_tick tail tick)) in
    let g : base_len (drop (length size + length before) (size ++ (before ++ tail))) ≡ base_len tail =
    ap base_len (sym (drop-drop (length before) (length size) (size ++ (before ++ tail))) ∙ (ap (drop (length before)) (drop-append_seam size (before ++ tail)) ∙ drop-append_seam before tail)) in
    let r = base_reaches mark behind digits rest m h d in
    let p : 0 < length mark = positive mark m in
    let all = based_is (size ++ (before ++ tail)) (length size) (length before) (base_len tail) e f g (omega arith) in
    omega arith
  where
    positive : (mark : Text) → is_base_mark mark ≡ true → 0 < length mark
    positive [] h = absurd (cc)
    positive (x ∷ xs) h = omega arith

-- what stands at the front where digits are counted
abbrev pub Digits : Text → Type 0
Digits bs = (behind : Text) × (digits : Text) × (rest : Text) × (bs ≡ behind ++ (digits ++ rest)) × IsBlank behind × IsValue behind digits × (length behind + length digits ≡ digits_len bs)

nonempty_run : (p : ℕ → Bool) (run : Text) → list_all p run ≡ true → 0 < length run → is_run p run ≡ true
nonempty_run p [] h l = absurd (omega arith)
nonempty_run p (x ∷ xs) h l = h

positive_count : (bs : Text) → 0 < digits_len bs → 0 < prefix_len is_based (drop (blanks 0 bs) bs)
positive_count bs h = least (prefix_len is_based (drop (blanks 0 bs) bs)) (λ e. omega (arith, no_digits bs e))
  where
    least : (n : ℕ) → (n ≡ 0 → ⊥) → 0 < n
    least zero f = absurd (f refl)
    least (suc n) f = omega arith

there_are : (bs : Text) → 0 < digits_len bs → Digits bs
there_are bs h =
    let s = split_blanks bs in
    let r = split_run is_based s.1 in
    let c : 0 < prefix_len is_based (drop (blanks 0 bs) bs) = positive_count bs h in
    let same : drop (blanks 0 bs) bs ≡ s.1 = ap (λ n. drop n bs) (sym s.4) ∙ (ap (drop (length s.0)) s.2 ∙ drop-append_seam s.0 s.1) in
    let n : prefix_len is_based (drop (blanks 0 bs) bs) ≡ length r.0 = ap (prefix_len is_based) same ∙ sym r.4 in
    let all = digits_are bs (length s.0) (length r.0) (sym s.4) (ap (λ k. prefix_len is_based (drop k bs)) s.4 ∙ n) (omega arith) in
    (s.0, r.0, r.1, s.2 ∙ ap (λ z. s.0 ++ z) r.2, s.3, inl (nonempty_run is_based r.0 r.3 (omega arith)), sym all)

zero_or_more : (n : ℕ) → (n ≡ 0) ⊎ (0 < n)
zero_or_more zero = inl refl
zero_or_more (suc n) = inr (omega arith)

pub split_digits : (bs : Text) → Digits bs
split_digits bs = elim (zero_or_more (digits_len bs)) [ inl e ↦ ([], [], bs, refl, blank_none, inr (refl, refl), sym e) | inr h ↦ there_are bs h ]

-- what stands at the front where a base of a length is counted
abbrev pub Base : Text → ℕ → Type 0
Base bs n = (mark : Text) × (behind : Text) × (digits : Text) × (rest : Text) × (bs ≡ mark ++ (behind ++ (digits ++ rest))) × (is_base_mark mark ≡ true) × IsBlank behind × IsValue behind digits
    × (length mark + (length behind + length digits) ≡ n)

plain_there : (bs : Text) → (first bs == 39) ≡ true → is_base (first (drop 1 bs)) ≡ true → Base bs (2 + digits_len (drop 2 bs))
plain_there [] t b = absurd (cc)
plain_there (x ∷ []) t b = absurd (cc)
plain_there (x ∷ y ∷ bs) t b =
    let d = split_digits bs in
    (x ∷ y ∷ [], d.0, d.1, d.2, ap (λ z. x ∷ y ∷ z) d.3, pair (x == 39) (is_base y) t b, d.4, d.5, omega (arith, d.6))

signed_there : (bs : Text) → (first bs == 39) ≡ true → (is_sign (first (drop 1 bs)) && is_base (first (drop 2 bs))) ≡ true → Base bs (3 + digits_len (drop 3 bs))
signed_there [] t b = absurd (cc)
signed_there (x ∷ []) t b = absurd (cc)
signed_there (x ∷ y ∷ []) t b = absurd (let e = both (is_sign y) (is_base 0) b in cc)
signed_there (x ∷ y ∷ z ∷ bs) t b =
    let d = split_digits bs in
    (x ∷ y ∷ z ∷ [], d.0, d.1, d.2, ap (λ k. x ∷ y ∷ z ∷ k) d.3, pair (x == 39) (is_sign y && is_base z) t b, d.4, d.5, omega (arith, d.6))

pub split_base : (bs : Text) → 0 < base_len bs → Base bs (base_len bs)
unfolding base_len
split_base bs =
    on_if (λ z. 0 < z → Base bs z) (first bs == 39) _ 0
    (λ t. on_if (λ z. 0 < z → Base bs z) (is_base (first (drop 1 bs))) (2 + digits_len (drop 2 bs)) _ (λ b h. plain_there bs t b)
    (λ n. on_if (λ z. 0 < z → Base bs z) (is_sign (first (drop 1 bs)) && is_base (first (drop 2 bs))) (3 + digits_len (drop 3 bs)) 0 (λ s h. signed_there bs t s) (λ u h. absurd (omega arith))))
    (λ t h. absurd (omega arith))

-- the number that stands at the front, from a first digit on
abbrev pub Numbered : Text → Type 0
Numbered bs = (number : Text) × (rest : Text) × (bs ≡ number ++ rest) × ((is_decimal_number number ≡ true) ⊎ IsBasedNumber number) × (length number ≡ number_len bs)

starts_digit : (b : ℕ) (bs run rest : Text) → is_digit b ≡ true → b ∷ bs ≡ run ++ rest → list_all is_decimal run ≡ true → 0 < length run → is_decimal_number run ≡ true
starts_digit b bs [] rest d e h l = absurd (omega arith)
starts_digit b bs (x ∷ xs) rest d e h l =
    let same : b ≡ x = cc in
    pair (is_digit x) (list_all is_decimal xs) (ap is_digit (sym same) ∙ d) (both (is_decimal x) (list_all is_decimal xs) h).1

counts_one : (b : ℕ) (bs : Text) → is_digit b ≡ true → 0 < prefix_len is_decimal (b ∷ bs)
counts_one b bs h = rw h (omega arith)

pub split_number : (b : ℕ) (bs : Text) → is_digit b ≡ true → Numbered (b ∷ bs)
split_number b bs d =
    let r = split_run is_decimal (b ∷ bs) in
    let s = split_blanks r.1 in
    let size : is_decimal_number r.0 ≡ true = starts_digit b bs r.0 r.1 d r.2 r.3 (omega (arith, r.4, counts_one b bs d)) in
    let e : prefix_len is_decimal (b ∷ bs) ≡ length r.0 = sym r.4 in
    let rest : drop (length r.0) (b ∷ bs) ≡ r.1 = ap (drop (length r.0)) r.2 ∙ drop-append_seam r.0 r.1 in
    let f : blanks 0 (drop (length r.0) (b ∷ bs)) ≡ length s.0 = ap (blanks 0) rest ∙ sym s.4 in
    let tail : drop (length r.0 + length s.0) (b ∷ bs) ≡ s.1 =
    sym (drop-drop (length s.0) (length r.0) (b ∷ bs)) ∙ (ap (drop (length s.0)) rest ∙ (ap (drop (length s.0)) s.2 ∙ drop-append_seam s.0 s.1)) in
    elim (zero_or_more (base_len s.1)) as (λ z. Numbered (b ∷ bs)) [
      | inl z ↦ (r.0, r.1, r.2, inl size, sym (plain_is (b ∷ bs) (length r.0) (length s.0) e f (ap base_len tail ∙ z)))
      | inr h ↦ with_base b bs r.0 r.1 s.0 s.1 r.2 s.2 s.3 size e f tail h (split_base s.1 h)
    ]
  where
    with_base : (b : ℕ) (bs size r1 blank s1 : Text) → b ∷ bs ≡ size ++ r1 → r1 ≡ blank ++ s1 → IsBlank blank → is_decimal_number size ≡ true
        → prefix_len is_decimal (b ∷ bs) ≡ length size → blanks 0 (drop (length size) (b ∷ bs)) ≡ length blank → drop (length size + length blank) (b ∷ bs) ≡ s1 → 0 < base_len s1 → Base s1 (base_len s1) → Numbered (b ∷ bs)
    with_base b bs size r1 blank s1 e1 e2 bl si e f tail h base =
        let number = size ++ (blank ++ (base.0 ++ (base.1 ++ base.2))) in
        let whole : b ∷ bs ≡ number ++ base.3 =
        e1 ∙ (ap (λ z. size ++ z) (e2 ∙ (ap (λ z. blank ++ z) (base.4 ∙ (ap (λ z. base.0 ++ z) (sym (append_assoc base.1 base.2 base.3)) ∙ sym (append_assoc base.0 (base.1 ++ base.2) base.3)))
        ∙ sym (append_assoc blank (base.0 ++ (base.1 ++ base.2)) base.3))) ∙ sym (append_assoc size (blank ++ (base.0 ++ (base.1 ++ base.2))) base.3)) in
        let l = based_is (b ∷ bs) (length size) (length blank) (base_len s1) e f (ap base_len tail) h in (
          number,
          base.3,
          whole,
          inr (record { size = size; before = blank; mark = base.0; behind = base.1; digits = base.2; whole = refl; sized = inl si; blank_before = bl; based = base.5; blank_behind = base.6; valued = base.7 }),
          simp length-append (omega (arith, l, base.8)),
        )
