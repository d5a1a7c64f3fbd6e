-- Numbers in texts: decimal digits, leading zeros allowed, and `-` before a number that is not 0.
use Rattle.std.specs.Prelude.{◌≤◌, ◌<◌, ℕ, ℤ, pos, Bool, true, false, cond, eqb, ltb, List, [], ◌∷◌, ◌++◌, Option, Some, None}
use Rattle.std.specs.Fmt.{signed_decimal}
use Rattle.std.specs.Int.RustNames.{unsigned_abs}
use Rattle.std.specs.Str.{all_ascii_digits}
use Rattle.std.specs.Str.Parse.{digits_value}
use mathlib.Core.Bool.{◌&&◌}
use lib.IntN.{neg_ℤ}

abbrev pub is_full : List ℕ → Bool
is_full [] = false
is_full (b ∷ bs) = true

-- the number below a bound that the digits say
abbrev pub number_below : ℕ → List ℕ → Option ℕ
number_below bound w = cond (is_full w && all_ascii_digits w && ltb (digits_value 10 w) bound) (Some (digits_value 10 w)) None

abbrev pub negative : Option ℕ → Option ℤ
negative None = None
negative (Some n) = cond (eqb n 0) None (Some (neg_ℤ (pos n)))

abbrev pub positive : Option ℕ → Option ℤ
positive None = None
positive (Some n) = Some (pos n)

-- the integer of an absolute value below a bound that the word says
abbrev pub integer_below : ℕ → List ℕ → Option ℤ
integer_below bound [] = None
integer_below bound (b ∷ bs) = cond (eqb b 45) (negative (number_below bound bs)) (positive (number_below bound (b ∷ bs)))

-- numbers in a text, each with a blank behind it, and 0
abbrev pub numbers_text : List ℤ → List ℕ
numbers_text [] = 48 ∷ []
numbers_text (z ∷ zs) = signed_decimal z ++ 32 ∷ numbers_text zs

-- numbers that are not 0, of absolute values below a bound
abbrev pub AllFit : ℕ → List ℤ → Type 0
AllFit bound [] = Unit {0}
AllFit bound (z ∷ zs) = (1 ≤ unsigned_abs z) × (unsigned_abs z < bound) × AllFit bound zs
