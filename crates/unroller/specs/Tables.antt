-- Tables by number.
use Rattle.std.specs.Prelude.{◌≡◌, ◌<◌, ℕ, Bool, List, length, Option, None, Some, slice_index_or}
use Rattle.cyc_net.specs.declared.cycle.BitLeaf.{BitLeaf}
use Rattle.cyc_net.specs.Cycles.{bit_of}

abbrev pub read_value : List (Option Bool) → ℕ → Option Bool
read_value table b = slice_index_or table b None

abbrev pub read_node : List ℕ → ℕ → ℕ
read_node table b = slice_index_or table b 0

-- a place where a bit stands, or none where it does not stand
abbrev pub IsPlaceOf : List BitLeaf → ℕ → Option ℕ → Type 0
IsPlaceOf bits b None = (k : ℕ) → k < length bits → bit_of bits k ≡ b → ⊥
IsPlaceOf bits b (Some k) = (k < length bits) × (bit_of bits k ≡ b)
