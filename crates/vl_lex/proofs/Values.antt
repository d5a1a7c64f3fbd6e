-- The value of digits, turn by turn.
use Rattle.std.proofs.Common.{◌≡◌, ℕ, zero, suc, ◌+◌, ◌*◌, ◌^◌, ◌<◌, ◌≤◌, ◌==◌, Bool, true, false, if◌then◌else◌, [], ◌∷◌, length, drop, get_or, refl, ap, sym, ◌∙◌, arith}
use Rattle.std.proofs.lemmas.Bool.Decides.{nat_tests}
use Rattle.vl_lex.specs.Bytes.{Text}
use Rattle.vl_lex.specs.Numbers.{value_from, digit_value}
use Rattle.vl_lex.proofs.Scans.{split_at, nothing_left}

larger : (base before d : ℕ) → 0 < base → before ≤ before * base + d
larger zero before d h = absurd (omega arith)
larger (suc base) before d h = grind arith

pick : (t : Bool) (m a b : ℕ) → m ≤ a → m ≤ b → m ≤ (if t then a else b)
pick true m a b h k = h
pick false m a b h k = k

-- more digits give no smaller value
pub value_grows : (base before : ℕ) (bs : Text) → 0 < base → before ≤ value_from base before bs
value_grows base before [] h = omega arith
value_grows base before (b ∷ bs) h =
    let k = value_grows base (before * base + digit_value b) bs h in
    let l = larger base before (digit_value b) h in
    pick (b == 95) before _ _ (value_grows base before bs h) (omega (arith, k, l))

pub value_turn : (base before at b : ℕ) (digits : Text) → at < length digits → get_or digits at 0 ≡ b
    → value_from base before (drop at digits) ≡ (if b == 95 then value_from base before (drop (at + 1) digits) else value_from base (before * base + digit_value b) (drop (at + 1) digits))
value_turn base before at b digits h g = ap (value_from base before) (split_at digits at b h g)

pub value_over : (base before at : ℕ) (digits : Text) → length digits ≤ at → value_from base before (drop at digits) ≡ before
value_over base before at digits h = ap (value_from base before) (nothing_left digits at h)

pub ruleset values = (value_turn, value_over, value_grows)

pub value_end : (base v at w : ℕ) (digits : Text) → value_from base v (drop at digits) ≡ w → length digits ≤ at → v < 2 ^ 128 → (w < 2 ^ 128) × (v ≡ w)
value_end base v at w digits inv h small = let e : v ≡ w = sym (value_over base v at digits h) ∙ inv in (omega arith, e)

not_score : (b : ℕ) → (b ≡ 95 → ⊥) → (b == 95) ≡ false
not_score b h = grind (arith, nat_tests)

pub value_stop : (base v at b w : ℕ) (digits : Text) → 0 < base → value_from base v (drop at digits) ≡ w → at < length digits → get_or digits at 0 ≡ b → (b ≡ 95 → ⊥)
    → (v * base + digit_value b < 2 ^ 128 → ⊥) → w < 2 ^ 128 → ⊥
value_stop base v at b w digits pos inv h g other over small =
    let turn : value_from base v (drop at digits) ≡ value_from base (v * base + digit_value b) (drop (at + 1) digits) = value_turn base v at b digits h g ∙ rw (not_score b other) refl in
    let grows = value_grows base (v * base + digit_value b) (drop (at + 1) digits) pos in
    let less : v * base + digit_value b < 2 ^ 128 = omega (arith, grows, turn, inv, small) in
    over less
