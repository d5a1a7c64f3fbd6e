-- How far pieces reach.
use Rattle.std.proofs.Common.{◌≡◌, ℕ, zero, suc, ◌+◌, ◌-◌, ◌<◌, ◌≤◌, ◌==◌, Bool, true, false, if◌then◌else◌, [], ◌∷◌, length, drop, refl, ap, ◌∙◌, arith}
use Rattle.std.proofs.lemmas.List.{drop-drop, length-drop}
use Rattle.std.proofs.lemmas.List.Sums.{prefix_len-le-length}
use Rattle.std.specs.List.{prefix_len}
use Rattle.std.proofs.lemmas.Bool.Decides.{nat_tests}
use Rattle.vl_lex.specs.Bytes.{Text, first, is_base, is_digit, is_decimal, is_space}
use Rattle.vl_lex.specs.Pieces.{blank_len, blanks, joined_len}

-- where a byte other than 0 stands first, there is one
pub first_there : (bs : Text) (b : ℕ) → 0 < b → first bs ≡ b → 0 < length bs
first_there [] b h e = absurd (omega arith)
first_there (c ∷ bs) b h e = omega arith

-- where a byte other than 0 stands second, there are two
pub second_there : (bs : Text) (b : ℕ) → 0 < b → first (drop 1 bs) ≡ b → 1 < length bs
second_there bs b h e = let l = first_there (drop 1 bs) b h e in omega (arith, length-drop 1 bs)

-- where a base stands first, there is one
pub base_there : (bs : Text) → is_base (first bs) ≡ true → 0 < length bs
base_there [] h = absurd (cc)
base_there (c ∷ bs) h = omega arith

pub length_drop : (k : ℕ) (bs : Text) → length (drop k bs) ≡ length bs - k
length_drop k bs = length-drop k bs

pub prefix_bound : (p : ℕ → Bool) (bs : Text) → prefix_len p bs ≤ length bs
prefix_bound p bs = prefix_len-le-length p bs

-- a digit in front is counted
pub counts_digit : (b : ℕ) (bs : Text) → is_digit b ≡ true → 0 < prefix_len is_decimal (b ∷ bs)
counts_digit b bs h = rw h (omega arith)

skipped : (k : ℕ) (bs : Text) → k ≤ length bs → blanks k bs ≡ k + blanks 0 (drop k bs)
unfolding blanks
skipped zero bs h = omega arith
skipped (suc k) [] h = absurd (omega arith)
skipped (suc k) (b ∷ bs) h = let e = skipped k bs (omega arith) in omega (arith, e)

joined_within : (bs : Text) → joined_len bs ≤ suc (length bs)
joined_within bs = grind (arith, first_there bs 10, first_there bs 13, second_there bs 10)

picked : (p q : Bool) (j n : ℕ) → j ≤ suc n → (if p then 1 else (if q then j else 0)) ≤ suc n
picked true q j n h = omega arith
picked false true j n h = h
picked false false j n h = omega arith

blank_within : (bs : Text) → blank_len bs ≤ length bs
blank_within [] = omega arith
blank_within (b ∷ bs) = picked (is_space b) (b == 92) (joined_len bs) (length bs) (joined_within bs)

nonzero : (n : ℕ) → (n == 0) ≡ false → 0 < n
nonzero n h = grind (arith, nat_tests)

turns : (t : Bool) (n b : ℕ) (bs : Text) → (t ≡ false → 0 < n) → n ≤ suc (length bs) → (if t then 0 else suc (blanks (n - 1) bs)) ≡ (if t then 0 else n + blanks 0 (drop n (b ∷ bs)))
turns true n b bs p h = refl
turns false zero b bs p h = absurd (omega (arith, p refl))
turns false (suc n) b bs p h = let e : suc n - 1 ≡ n = omega arith in let l = skipped n bs (omega arith) in rw e (omega (arith, l))

-- the white space in front: none, or one blank and the white space behind it
pub blanks_turn : (bs : Text) → blanks 0 bs ≡ (if blank_len bs == 0 then 0 else blank_len bs + blanks 0 (drop (blank_len bs) bs))
unfolding blanks
blanks_turn [] = refl
blanks_turn (b ∷ bs) = turns (blank_len (b ∷ bs) == 0) (blank_len (b ∷ bs)) b bs (nonzero (blank_len (b ∷ bs))) (blank_within (b ∷ bs))

pub blanks_on : (bytes : Text) (at len : ℕ) → len ≡ blank_len (drop at bytes) → 0 < len → blanks 0 (drop at bytes) ≡ len + blanks 0 (drop (at + len) bytes)
blanks_on bytes at len e h =
    let go : blanks 0 (drop at bytes) ≡ (if len == 0 then 0 else len + blanks 0 (drop len (drop at bytes))) = rw e (blanks_turn (drop at bytes)) in
    let there : (len == 0) ≡ false = grind (arith, nat_tests) in
    let on : drop len (drop at bytes) ≡ drop (at + len) bytes = drop-drop len at bytes in
    go ∙ (rw there (ap (λ z. len + blanks 0 z) on))

pub blanks_over : (bytes : Text) (at len : ℕ) → len ≡ blank_len (drop at bytes) → len ≤ 0 → blanks 0 (drop at bytes) ≡ 0
blanks_over bytes at len e h =
    let none : blank_len (drop at bytes) ≡ 0 = omega arith in
    blanks_turn (drop at bytes) ∙ rw none refl
