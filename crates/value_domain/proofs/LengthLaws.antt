-- The lengths of what operators give.
use Rattle.std.proofs.Common.{◌≡◌, ℕ, Bool, true, false, not, ◌&&◌, List, [], ◌∷◌, length, map, ap, refl, nat_eq}
use Rattle.std.proofs.lemmas.List.{length-map}
use Rattle.std.proofs.lemmas.List.FromFn.{length-map-range_with_len}
use Rattle.std.proofs.lemmas.Bool.{eqb-true}
use Rattle.bits_core.specs.Places.{exclusive_or, zip_with, shifted_left, shifted_right}
use Rattle.bits_core.specs.Numbers.{number}
use Rattle.bits_core.proofs.NumberLaws.{bits_of_length}
use Rattle.bits_core.proofs.PlaceLaws.{length-zip_with}
use Rattle.design_core.specs.declared.operators.Unary.{Unary}
use Rattle.design_core.specs.declared.operators.Unary.TheVariants as unary
use Rattle.design_core.specs.declared.operators.Binary.{Binary}
use Rattle.design_core.specs.declared.operators.Binary.TheVariants as binary
use Rattle.design_core.specs.Operators.{unary_value, binary_value}
use Rattle.value_domain.specs.Lengths.{FitsBinary, binary_length, unary_length}

pub length_unary : (op : Unary) (a : List Bool) → length (unary_value op a) ≡ unary_length op (length a)
length_unary unary.Negate a = bits_of_length (length a) _
length_unary unary.Invert a = length-map a not
length_unary unary.Not a = refl
length_unary unary.And a = refl
length_unary unary.Nand a = refl
length_unary unary.Or a = refl
length_unary unary.Nor a = refl
length_unary unary.Xor a = refl
length_unary unary.Xnor a = refl

first_true : (a b : Bool) → (a && b) ≡ true → a ≡ true
first_true true b e = refl
first_true false b e = e

second_true : (a b : Bool) → (a && b) ≡ true → b ≡ true
second_true true b e = e
second_true false b e = absurd (no_true e)
  where
    no_true : false ≡ true → ⊥
    no_true p = cc

-- operands of one length, told by the test
both : (m n : ℕ) → (nat_eq m m && nat_eq m n) ≡ true → m ≡ n
both m n e = eqb-true m n (second_true (nat_eq m m) (nat_eq m n) e)

same_lengths : (a b : List Bool) → (nat_eq (length a) (length a) && nat_eq (length a) (length b)) ≡ true → length a ≡ length b
same_lengths a b e = both (length a) (length b) e

left_length : (a : List Bool) (n : ℕ) → length (shifted_left n a) ≡ length a
unfolding shifted_left
left_length a n = length-map-range_with_len _ 0 (length a)

right_length : (fill : Bool) (a : List Bool) (n : ℕ) → length (shifted_right fill n a) ≡ length a
unfolding shifted_right
right_length fill a n = length-map-range_with_len _ 0 (length a)

pub length_binary : (op : Binary) (signed : Bool) (a b : List Bool) → FitsBinary op (length a) (length b)
    → length (binary_value op signed a b) ≡ binary_length op (length a)
length_binary binary.Add signed a b e = bits_of_length (length a) _
length_binary binary.Sub signed a b e = bits_of_length (length a) _
length_binary binary.Mul signed a b e = bits_of_length (length a) _
length_binary binary.And signed a b e = length-zip_with _ a b (same_lengths a b e)
length_binary binary.Or signed a b e = length-zip_with _ a b (same_lengths a b e)
length_binary binary.Xor signed a b e = length-zip_with _ a b (same_lengths a b e)
length_binary binary.Xnor signed a b e = length-zip_with _ a b (same_lengths a b e)
length_binary binary.Less signed a b e = refl
length_binary binary.LessEqual signed a b e = refl
length_binary binary.Greater signed a b e = refl
length_binary binary.GreaterEqual signed a b e = refl
length_binary binary.Equal signed a b e = refl
length_binary binary.NotEqual signed a b e = refl
length_binary binary.LogicAnd signed a b e = refl
length_binary binary.LogicOr signed a b e = refl
length_binary binary.ShiftLeft signed a b e = left_length a (number b)
length_binary binary.ShiftRight signed a b e = right_length false a (number b)
length_binary binary.ShiftRightSigned signed a b e = right_length _ a (number b)

pub not_exclusive : (a b : List Bool) → map not (zip_with exclusive_or a b) ≡ zip_with (λ x y. not (exclusive_or x y)) a b
not_exclusive [] b = refl
not_exclusive (x ∷ a) [] = refl
not_exclusive (x ∷ a) (y ∷ b) = ap (λ r. not (exclusive_or x y) ∷ r) (not_exclusive a b)
