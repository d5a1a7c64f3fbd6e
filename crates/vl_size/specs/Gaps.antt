-- The digits of the numbers of bits.
use Rattle.std.specs.Prelude.{ℕ, Bool, false, List, length, nat_lt, if◌then◌else◌}
use Rattle.bits_core.specs.Places.{bit_at, exclusive_or}

-- the bit at a place, flipped where asked for, and 0 above the highest one
abbrev pub digit_at : Bool → List Bool → ℕ → Bool
digit_at flip bits at = if nat_lt at (length bits) then exclusive_or flip (bit_at bits at) else false
