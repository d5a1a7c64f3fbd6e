-- What a bit of a right side is, where a bit of a left side lies, and lists of both, the lowest bit first.
use Rattle.std.specs.Prelude.{ℕ, ◌-◌, Bool, List, [], ◌∷◌, ◌++◌, length, map, slice_index_or, Option, Some, None, ℤ, pos, negsuc, ◌+ℤ◌, nat_lt, if◌then◌else◌, false}
use Rattle.std.specs.List.{range_with_len}
use Rattle.design_core.specs.declared.tree.DBase.{DBase}
use Rattle.design_core.specs.declared.tree.DBase.TheVariants as base
use Rattle.design_core.specs.Core.{spots}
use Rattle.bit_assigns.specs.declared.bits.SignalBit.{SignalBit}
use Rattle.bit_assigns.specs.declared.bits.Source.{Source}
use Rattle.bit_assigns.specs.declared.bits.Source.TheVariants as source
use Rattle.bit_assigns.specs.declared.bits.Target.{Target}
use Rattle.bit_assigns.specs.declared.bits.Target.TheVariants as target

-- bit k of signal s, which has m bits
abbrev pub bit_of : ℕ → ℕ → ℕ → SignalBit
bit_of s m k = record { signal = s; length = m; bit = k }

-- what is read at a place of a signal; outside of the signal that is 0 (5.2.1)
abbrev pub source_at : ℕ → ℕ → Option ℕ → Source
source_at s m None = source.Known false
source_at s m (Some k) = source.Bit (bit_of s m k)

-- what is written at a place of a signal
abbrev pub target_at : ℕ → ℕ → Option ℕ → Target
target_at s m None = target.Outside s
target_at s m (Some k) = target.Bit (bit_of s m k)

-- n bits from low on of signal s, which has m bits: read, and written
abbrev pub span_sources : ℕ → ℕ → ℤ → ℕ → List Source
span_sources s m low n = map (source_at s m) (spots m low n)

abbrev pub span_targets : ℕ → ℕ → ℤ → ℕ → List Target
span_targets s m low n = map (target_at s m) (spots m low n)

-- of what a left side names, a signal alone has bits
abbrev pub base_targets : DBase → ℕ → ℤ → ℕ → List Target
base_targets (base.Signal s) m low n = span_targets s m low n
base_targets (base.Local k) m low n = []

-- the bit at a place, 0 where there is none
abbrev pub source_or : List Source → ℕ → Source
source_or bits k = slice_index_or bits k (source.Known false)

abbrev pub source_or_int : List Source → ℤ → Source
source_or_int bits (pos k) = source_or bits k
source_or_int bits (negsuc k) = source.Known false

-- n bits from low on, 0 outside (5.2.1)
abbrev pub selected_sources : ℤ → ℕ → List Source → List Source
selected_sources low n bits = map (λ k. source_or_int bits (low +ℤ pos k)) (range_with_len 0 n)

-- what stands above the highest bit: the highest bit again where the sign is kept, else 0
abbrev pub filling : Bool → List Source → Source
filling keeps bits = if keeps then source_or bits (length bits - 1) else source.Known false

-- brought to n bits: cut, or filled above (5.5)
abbrev pub extended_sources : Bool → ℕ → List Source → List Source
extended_sources keeps n bits = map (λ k. if nat_lt k (length bits) then source_or bits k else filling keeps bits) (range_with_len 0 n)

-- lists side by side: the first is the highest (5.1.14)
abbrev pub side_by_side : {A : Type 0} → List (List A) → List A
side_by_side [] = []
side_by_side (p ∷ ps) = side_by_side ps ++ p

-- the lowest bit, 0 where there is none, and the bits above it
abbrev pub lowest_source : List Source → Source
lowest_source [] = source.Known false
lowest_source (b ∷ bs) = b

abbrev pub above_lowest : List Source → List Source
above_lowest [] = []
above_lowest (b ∷ bs) = bs
