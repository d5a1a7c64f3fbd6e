-- What each operator gives on lists of bits, the lowest first. An arithmetic or bitwise operator is used on operands of one length.
use Rattle.std.specs.Prelude.{ℕ, zero, suc, ◌-◌, ◌^◌, Bool, true, false, not, ◌&&◌, ◌||◌, List, [], ◌∷◌, ◌++◌, length, map, ℤ, pos, ◌-ℤ◌, if◌then◌else◌}
use Rattle.std.specs.List.{list_all}
use Rattle.bits_core.specs.Places.{sign_of, exclusive_or, zip_with, shifted_left, shifted_right, is_set}
use Rattle.bits_core.specs.Numbers.{number, signed_number, bits_of, sum_bits, difference_bits, product_bits, is_less}
use Rattle.design_core.specs.declared.operators.Unary.{Unary}
use Rattle.design_core.specs.declared.operators.Unary.TheVariants as unary
use Rattle.design_core.specs.declared.operators.Binary.{Binary}
use Rattle.design_core.specs.declared.operators.Binary.TheVariants as binary

-- the value with the other sign, in two's complement (5.1.5)
abbrev pub negated : List Bool → List Bool
negated a = bits_of (length a) (2 ^ length a - number a)

-- an odd number of bits is 1 (5.1.11)
abbrev pub is_odd : List Bool → Bool
is_odd [] = false
is_odd (a ∷ rest) = exclusive_or a (is_odd rest)

-- bit for bit the same (5.1.8)
abbrev pub is_equal : List Bool → List Bool → Bool
is_equal [] [] = true
is_equal [] (b ∷ bs) = false
is_equal (a ∷ rest) [] = false
is_equal (a ∷ rest) (b ∷ bs) = not (exclusive_or a b) && is_equal rest bs

-- a truth value as one bit
abbrev pub one_bit : Bool → List Bool
one_bit b = b ∷ []

-- negation (5.1.5), bitwise negation (5.1.10), logical negation (5.1.9) and the reductions (5.1.11)
abbrev pub unary_value : Unary → List Bool → List Bool
unary_value unary.Negate a = negated a
unary_value unary.Invert a = map not a
unary_value unary.Not a = one_bit (not (is_set a))
unary_value unary.And a = one_bit (list_all (λ bit. bit) a)
unary_value unary.Nand a = one_bit (not (list_all (λ bit. bit) a))
unary_value unary.Or a = one_bit (is_set a)
unary_value unary.Nor a = one_bit (not (is_set a))
unary_value unary.Xor a = one_bit (is_odd a)
unary_value unary.Xnor a = one_bit (not (is_odd a))

-- arithmetic (5.1.5), bitwise operators (5.1.10), comparisons by number or in two's complement (5.1.7, 5.1.8), logical operators (5.1.9)
-- and shifts by an amount without sign (5.1.12); `signed` decides comparisons and the fill of the arithmetic right shift
abbrev pub binary_value : Binary → Bool → List Bool → List Bool → List Bool
binary_value binary.Add signed a b = sum_bits a b
binary_value binary.Sub signed a b = difference_bits a b
binary_value binary.Mul signed a b = product_bits a b
binary_value binary.And signed a b = zip_with (λ x y. x && y) a b
binary_value binary.Or signed a b = zip_with (λ x y. x || y) a b
binary_value binary.Xor signed a b = zip_with exclusive_or a b
binary_value binary.Xnor signed a b = zip_with (λ x y. not (exclusive_or x y)) a b
binary_value binary.Less signed a b = one_bit (is_less signed a b)
binary_value binary.LessEqual signed a b = one_bit (not (is_less signed b a))
binary_value binary.Greater signed a b = one_bit (is_less signed b a)
binary_value binary.GreaterEqual signed a b = one_bit (not (is_less signed a b))
binary_value binary.Equal signed a b = one_bit (is_equal a b)
binary_value binary.NotEqual signed a b = one_bit (not (is_equal a b))
binary_value binary.LogicAnd signed a b = one_bit (is_set a && is_set b)
binary_value binary.LogicOr signed a b = one_bit (is_set a || is_set b)
binary_value binary.ShiftLeft signed a b = shifted_left (number b) a
binary_value binary.ShiftRight signed a b = shifted_right false (number b) a
binary_value binary.ShiftRightSigned signed a b = shifted_right (signed && sign_of a) (number b) a

-- an operator is signed by its operands where it compares, both of them signed, and else by the expression's own sign (5.5.1)
abbrev pub by_sign : Binary → Bool → Bool → Bool → Bool
by_sign binary.Add own left right = own
by_sign binary.Sub own left right = own
by_sign binary.Mul own left right = own
by_sign binary.And own left right = own
by_sign binary.Or own left right = own
by_sign binary.Xor own left right = own
by_sign binary.Xnor own left right = own
by_sign binary.Less own left right = left && right
by_sign binary.LessEqual own left right = left && right
by_sign binary.Greater own left right = left && right
by_sign binary.GreaterEqual own left right = left && right
by_sign binary.Equal own left right = left && right
by_sign binary.NotEqual own left right = left && right
by_sign binary.LogicAnd own left right = own
by_sign binary.LogicOr own left right = own
by_sign binary.ShiftLeft own left right = own
by_sign binary.ShiftRight own left right = own
by_sign binary.ShiftRightSigned own left right = own

-- the conditional operator: the second operand where some bit of the first is 1, else the third (5.1.13)
abbrev pub chosen : List Bool → List Bool → List Bool → List Bool
chosen c a b = if is_set c then a else b

-- the same bits over and over (5.1.14)
abbrev pub repeated : ℕ → List Bool → List Bool
repeated zero v = []
repeated (suc n) v = v ++ repeated n v

-- the number that an index stands for, by its own sign
abbrev pub index_number : Bool → List Bool → ℤ
index_number false index = pos (number index)
index_number true index = signed_number index

-- the lowest place of a variable select: the index less the offset, or the offset less the index where places count down (5.2.1)
abbrev pub lowest : ℤ → Bool → Bool → List Bool → ℤ
lowest offset false signed index = index_number signed index -ℤ offset
lowest offset true signed index = offset -ℤ index_number signed index

-- an item of a case matches the selector where all bits agree that are not free (9.5.1)
abbrev pub all_match : List Bool → List Bool → List Bool → Bool
all_match [] bs free = true
all_match (a ∷ rest) [] free = true
all_match (a ∷ rest) (b ∷ bs) [] = not (exclusive_or a b) && all_match rest bs []
all_match (a ∷ rest) (b ∷ bs) (f ∷ fs) = (f || not (exclusive_or a b)) && all_match rest bs fs
