-- Operators lie within the bytes.
use Rattle.std.proofs.Common.{◌≡◌, ℕ, ◌+◌, ◌<◌, ◌==◌, ◌&&◌, Bool, true, false, if◌then◌else◌, [], ◌∷◌, length, drop, refl, arith}
use Rattle.vl_lex.specs.Bytes.{Text, first}
use Rattle.vl_lex.specs.Pieces.{is_pair, is_triple}

never : (p q : Bool) → p ≡ false → q ≡ false → (p && q) ≡ false
never p q h k = rw h refl

chosen : (t a b : Bool) → a ≡ false → b ≡ false → (if t then a else b) ≡ false
chosen true a b h k = h
chosen false a b h k = k

no_pair : (b : ℕ) → is_pair b 0 ≡ false
no_pair b =
    chosen (b == 60) _ _ refl (chosen (b == 62) _ _ refl (chosen (b == 61) _ _ refl (chosen (b == 33) _ _ refl (chosen (b == 38) _ _ refl (chosen (b == 124) _ _ refl
    (chosen (b == 42) _ _ refl (chosen (b == 126) _ _ refl (chosen (b == 94) _ _ refl (chosen (b == 43) _ _ refl (chosen (b == 45) _ _ refl refl))))))))))

ends_false : (p : Bool) → (p && false) ≡ false
ends_false true = refl
ends_false false = refl

no_triple : (b c : ℕ) → is_triple b c 0 ≡ false
no_triple b c =
    chosen (b == 60) _ _ (ends_false (c == 60)) (chosen (b == 62) _ _ (ends_false (c == 62)) (chosen (b == 61) _ _ (ends_false (c == 61)) (chosen (b == 33) _ _ (ends_false (c == 61)) refl)))

pub pair_there : (b : ℕ) (bs : Text) → is_pair b (first bs) ≡ true → 0 < length bs
pair_there b [] h = let e = no_pair b in absurd (cc)
pair_there b (c ∷ bs) h = omega arith

pub triple_there : (b : ℕ) (bs : Text) → is_triple b (first bs) (first (drop 1 bs)) ≡ true → 1 < length bs
triple_there b [] h = let e = no_triple b 0 in absurd (cc)
triple_there b (c ∷ []) h = let e = no_triple b c in absurd (cc)
triple_there b (c ∷ d ∷ bs) h = omega arith

pub starts : (bytes rest : Text) (b : ℕ) → bytes ≡ b ∷ rest → length bytes ≡ length rest + 1
starts bytes rest b e = rw e (omega arith)
