-- The numbers of bits: their places in the order of bits, by the number of the signal and then from the lowest bit up.
use Rattle.std.specs.Prelude.{ℕ, ◌+◌, Bool, if◌then◌else◌, nat_lt, List, [], ◌∷◌, map, take, sum, slice_index_or}
use Rattle.design_core.specs.declared.place.BitRef.{BitRef}
use Rattle.design_core.specs.Core.{bit, skip}
use Rattle.design_core.specs.Cells.{Cell}
use Rattle.design_core.specs.Items.{clocked, cell_of}

-- the bit is one of a signal, where the list has the lengths of the signals
abbrev pub is_bit : List ℕ → BitRef → Bool
is_bit lengths b = nat_lt b.bit (slice_index_or lengths b.signal 0)

-- the number of a signal's lowest bit
abbrev pub first_number : List ℕ → ℕ → ℕ
first_number lengths s = sum (take s lengths)

-- the number of a bit: how many bits come before it
abbrev pub number : List ℕ → BitRef → ℕ
number lengths b = first_number lengths b.signal + b.bit

-- the bit with a number, where `bits` has bits in their order
abbrev pub named_bit : List BitRef → ℕ → BitRef
named_bit bits n = slice_index_or bits n (bit 0 0)

-- the numbers of those bits for which a test holds, where the first one has the number n
abbrev pub numbers_from : ℕ → (BitRef → Bool) → List BitRef → List ℕ
numbers_from n test [] = []
numbers_from n test (b ∷ bs) = if test b then n ∷ numbers_from (n + 1) test bs else numbers_from (n + 1) test bs

-- a cell that drives nothing and reads nothing
abbrev pub idle : Cell BitRef
idle = cell_of (clocked skip)

-- the cells with these places in a list, in this order
abbrev pub chosen_cells : List (Cell BitRef) → List ℕ → List (Cell BitRef)
chosen_cells cells places = map (λ n. slice_index_or cells n idle) places
