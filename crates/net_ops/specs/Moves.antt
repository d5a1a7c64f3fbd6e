-- Words moved by a number of places.
use Rattle.std.specs.Prelude.{ℕ, ◌+◌, ◌-◌, Bool, true, false, List, length, nat_lt, if◌then◌else◌}
use Rattle.bits_core.specs.Places.{bit_at, shifted_left, shifted_right}

-- the bit that comes to a place of a word that is moved up, filled with 0, or down, filled with a bit
abbrev pub come : Bool → Bool → ℕ → List Bool → ℕ → Bool
come true fill by bits k = if nat_lt k by then false else bit_at bits (k - by)
come false fill by bits k = if nat_lt (k + by) (length bits) then bit_at bits (k + by) else fill

-- the whole word so moved
unfoldable pub moved : Bool → Bool → ℕ → List Bool → List Bool
moved true fill by bits = shifted_left by bits
moved false fill by bits = shifted_right fill by bits
