-- Lists of bits place by place.
use Rattle.std.proofs.Common.{◌≡◌, ℕ, suc, ◌<◌, Bool, true, false, List, [], ◌∷◌, length, get_or, ap, refl, sym, ◌∙◌, arith, IsTrue, ◌↔◌}
use Rattle.std.proofs.Math.Bool.{beq}
use lib.Pointwise.{pointwise}
use Rattle.bits_core.specs.Places.{zip_with}

false_true : false ≡ true → ⊥
false_true e = cc

pub zip_with_by : (f : Bool → Bool → Bool) (a b out : List Bool) → length a ≡ length out → length b ≡ length out
    → ((k : ℕ) → k < length out → get_or out k false ≡ f (get_or a k false) (get_or b k false)) → out ≡ zip_with f a b
zip_with_by f [] b [] e g h = refl
zip_with_by f [] b (o ∷ out) e g h = absurd (omega (arith, e))
zip_with_by f (x ∷ a) b [] e g h = absurd (omega (arith, e))
zip_with_by f (x ∷ a) [] (o ∷ out) e g h = absurd (omega (arith, g))
zip_with_by f (x ∷ a) (y ∷ b) (o ∷ out) e g h =
    let first : o ≡ f x y = h 0 (omega arith) in
    let rest : out ≡ zip_with f a b = zip_with_by f a b out (omega (arith, e)) (omega (arith, g)) (λ k l. h (suc k) (omega (arith, l))) in
    cc

pub length-zip_with : (f : Bool → Bool → Bool) (a b : List Bool) → length a ≡ length b → length (zip_with f a b) ≡ length a
length-zip_with f [] b e = refl
length-zip_with f (x ∷ a) [] e = absurd (omega (arith, e))
length-zip_with f (x ∷ a) (y ∷ b) e = ap suc (length-zip_with f a b (omega (arith, e)))

-- the test of two lists bit by bit is equality
pub same_from_test : (xs ys : List Bool) → pointwise beq xs ys ≡ true → xs ≡ ys
same_from_test [] [] e = refl
same_from_test [] (y ∷ ys) e = absurd (false_true e)
same_from_test (x ∷ xs) [] e = absurd (false_true e)
same_from_test (false ∷ xs) (false ∷ ys) e = ap (λ r. false ∷ r) (same_from_test xs ys e)
same_from_test (true ∷ xs) (true ∷ ys) e = ap (λ r. true ∷ r) (same_from_test xs ys e)
same_from_test (false ∷ xs) (true ∷ ys) e = absurd (false_true e)
same_from_test (true ∷ xs) (false ∷ ys) e = absurd (false_true e)

pub same_test : (xs : List Bool) → pointwise beq xs xs ≡ true
same_test [] = refl
same_test (false ∷ xs) = same_test xs
same_test (true ∷ xs) = same_test xs

pub decides_same : (b : Bool) (xs ys : List Bool) → b ≡ pointwise beq xs ys → IsTrue b ↔ (xs ≡ ys)
decides_same true xs ys e = ((λ t. same_from_test xs ys (sym e)), (λ p. refl))
decides_same false xs ys e = ((λ t. absurd (false_true t)), (λ p. e ∙ ap (λ r. pointwise beq r ys) p ∙ same_test ys))
