-- What shifts and bits are, by numbers.
use Rattle.std.specs.Prelude.{◌≡◌, ℕ, ◌*◌, ◌/◌, ◌%◌, ◌^◌, false, Bool, List, length}
use Rattle.bits_core.specs.Numbers.{number, bits_of}
use Rattle.bits_core.specs.Places.{shifted_left, shifted_right}

abbrev pub NumbersOfBits : Type 0
NumbersOfBits = (n value : ℕ) → number (bits_of n value) ≡ value % 2 ^ n

abbrev pub BitsOfNumbers : Type 0
BitsOfNumbers = (bits : List Bool) → bits_of (length bits) (number bits) ≡ bits

abbrev pub LeftMultiplies : Type 0
LeftMultiplies = (by : ℕ) (bits : List Bool) → shifted_left by bits ≡ bits_of (length bits) (number bits * 2 ^ by)

abbrev pub RightDivides : Type 0
RightDivides = (by : ℕ) (bits : List Bool) → shifted_right false by bits ≡ bits_of (length bits) (number bits / 2 ^ by)
