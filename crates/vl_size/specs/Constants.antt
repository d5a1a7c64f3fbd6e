-- The numbers that constants stand for.
use Rattle.std.specs.Prelude.{ℕ, suc, ◌+◌, ◌-◌, ◌^◌, ◌&&◌, Bool, List, [], ◌∷◌, map, nat_lt, Option, Some, None, ℤ, pos, negsuc, if◌then◌else◌}
use Rattle.bits_core.specs.Numbers.{number}
use Rattle.bits_core.specs.Places.{exclusive_or, sign_of}
use Rattle.vl_size.specs.declared.constant.Const.{Const}

-- whether the number is below 0
abbrev pub is_negative : Const → Bool
is_negative c = c.signed && sign_of c.bits

-- the number of the bits, each flipped where asked for
abbrev pub flipped_number : Bool → List Bool → ℕ
flipped_number flip bits = number (map (exclusive_or flip) bits)

-- the number n, or -1 less n
abbrev pub signed_by : Bool → ℕ → ℤ
signed_by negative n = if negative then negsuc n else pos n

-- The number, in two's complement where it is signed. A negative number is -1 less the number of its flipped bits.
abbrev pub number_of : Const → ℤ
number_of c = signed_by (is_negative c) (flipped_number (is_negative c) c.bits)

-- a number of 63 bits, with its sign
abbrev pub signed_whole : Bool → ℕ → Option ℤ
signed_whole negative n = if nat_lt n (2 ^ 63) then Some (signed_by negative n) else None

-- the number, if it fits into 64 bits with a sign
abbrev pub whole : Const → Option ℤ
whole c = signed_whole (is_negative c) (flipped_number (is_negative c) c.bits)

-- the value at the front of a list, if there is one and it fits
abbrev pub next_value : List Const → Option ℤ
next_value [] = None
next_value (c ∷ cs) = whole c

-- the number of the value at the front, of any size
abbrev pub next_number : List Const → Option ℤ
next_number [] = None
next_number (c ∷ cs) = Some (number_of c)

abbrev pub behind_next : List Const → List Const
behind_next [] = []
behind_next (c ∷ cs) = cs

-- how far the first number is above the second, and 0 where it is not
abbrev pub above : ℤ → ℤ → ℕ
above (pos m) (pos n) = m - n
above (pos m) (negsuc n) = suc (m + n)
above (negsuc m) (pos n) = 0
above (negsuc m) (negsuc n) = n - m
