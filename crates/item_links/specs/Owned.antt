-- Bits that an item drives itself are left out of what it reads.
use Rattle.std.specs.Prelude.{◌≡◌, ℕ, ◌<◌, Bool, true, false, ◌==◌, List, Option, Some, None, length, slice_index_or}
use Rattle.design_core.specs.declared.place.BitRef.{BitRef}
use Rattle.design_core.specs.declared.items.Item.{Item}
use Rattle.design_core.specs.declared.items.Item.TheVariants as kinds
use Rattle.design_core.specs.Numbers.{is_bit, number}
use Rattle.item_order.specs.Spans.{driver_in}

abbrev pub is_same : Option ℕ → ℕ → Bool
is_same None i = false
is_same (Some j) i = j == i

-- the item is noted as the driver of the bit
abbrev pub owns : List (Option ℕ) → ℕ → ℕ → Bool
owns drivers i n = is_same (driver_in drivers n) i

-- the signals of these bits have the item's stamp
abbrev pub AreStamped : List ℕ → (BitRef → Bool) → ℕ → Type 0
AreStamped stamps f i = (b : BitRef) → f b ≡ true → b.signal < length stamps → slice_index_or stamps b.signal 0 ≡ i

-- these are the bits that the item is noted to drive
abbrev pub IsOwned : List ℕ → List (Option ℕ) → ℕ → (BitRef → Bool) → Type 0
IsOwned lengths drivers i own = (b : BitRef) → is_bit lengths b ≡ true → owns drivers i (number lengths b) ≡ own b

-- the item is a combinational process
abbrev pub is_comb : Item → Bool
is_comb (kinds.Assign scope weight l e) = false
is_comb (kinds.Comb scope weight body) = true
is_comb (kinds.Clocked scope weight reset body) = false
