-- The shifts.
use Rattle.std.specs.Prelude.{ℕ, Bool, false, List}
use Rattle.bits_core.specs.Places.{shifted_left, shifted_right, sign_of}
use Rattle.bits_core.specs.declared.places.Shift.{Shift}
use Rattle.bits_core.specs.declared.places.Shift.TheVariants as shift

abbrev pub shifted : Shift → ℕ → List Bool → List Bool
shifted shift.Left by bits = shifted_left by bits
shifted shift.Right by bits = shifted_right false by bits
shifted shift.RightSigned by bits = shifted_right (sign_of bits) by bits
