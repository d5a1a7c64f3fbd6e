-- Where an assignment writes.
use Rattle.std.specs.Prelude.{◌≡◌, ℕ, ◌+◌, ◌≤◌, ◌<◌, Bool, true, false, List, [], ◌∷◌, length, slice_index_or, slice_set, ℤ, pos}
use Rattle.bits_core.specs.Places.{placed, selected}
use Rattle.design_core.specs.Core.{Base, signal, local, Place, joined, placed_at as places_at, spots}
use Rattle.design_core.specs.Operators.{lowest}
use Rattle.design_core.specs.declared.tree.DBase.{DBase}
use Rattle.design_core.specs.declared.tree.DBase.TheVariants as base
use Rattle.stmt_exec.specs.declared.aims.Target.{Target}
use Rattle.stmt_exec.specs.declared.aims.Spot.{Spot}
use Rattle.stmt_exec.specs.declared.aims.Spot.TheVariants as spot
use Rattle.value_domain.specs.Meaning.{Meaning}
use Rattle.value_domain.specs.Words.{IsWord}

-- count places from low on in a vector
pub record Hit : Type 0 where
  pub vector : ℕ
  pub low : ℤ
  pub count : ℕ

-- the same, and how many places the vector has
pub record Aim : Type 0 where
  pub hit : Hit
  pub most : ℕ

-- the number of what a left side names
abbrev pub base_number : DBase → ℕ
base_number (base.Signal s) = s
base_number (base.Local k) = k

abbrev pub base_in : Bool → ℕ → Base
base_in true k = local k
base_in false k = signal k

abbrev pub aim_places : Bool → Aim → List Place
aim_places inside a = places_at (base_in inside a.hit.vector) (spots a.most a.hit.low a.hit.count)

-- the places of a left side, the lowest first; its first part is the highest
abbrev pub all_places : Bool → List Aim → List Place
all_places inside [] = []
all_places inside (a ∷ as') = joined (all_places inside as') (aim_places inside a)

-- how many bits are written
abbrev pub all_count : List Hit → ℕ
all_count [] = 0
all_count (a ∷ as') = all_count as' + a.count

-- the values after some bits of an assignment are written
abbrev pub one_written : Hit → ℕ → List Bool → List (List Bool) → List (List Bool)
one_written a from vs rows = slice_set rows a.vector (placed a.low (selected (pos from) a.count vs) (slice_index_or rows a.vector []))

-- the values after an assignment of bits, the first part first
abbrev pub all_written : List Hit → List Bool → List (List Bool) → List (List Bool)
all_written [] vs rows = rows
all_written (a ∷ as') vs rows = all_written as' vs (one_written a (all_count as') vs rows)

-- the most that a vector has: a signal's length; a write past a local's end has no effect
abbrev pub most_in : Bool → List ℕ → ℕ → ℕ
most_in true widths k = 65536
most_in false widths k = slice_index_or widths k 0

-- the whole of a vector takes as many bits as it has; an index has at most 128 bits
abbrev pub SpotTakes : {S V : Type 0} → Meaning S V → S → ℕ → ℕ → Spot V → Type 0
SpotTakes m d wide n spot.Whole = wide ≡ n
SpotTakes m d wide n (spot.At low) = Unit {0}
SpotTakes m d wide n (spot.Variable index start) = IsWord m d index × (index.length ≤ 128)

-- a target is 1 to 65,536 bits of a vector
pub record IsTarget {S V : Type 0} (m : Meaning S V) (widths : List ℕ) (d : S) (t : Target V) : Type 0 where
  pub there : t.vector < length widths
  pub some : 1 ≤ t.length
  pub most : t.length ≤ 65536
  pub takes : SpotTakes m d (slice_index_or widths t.vector 0) t.length t.spot

-- the place where a target begins
abbrev pub spot_low : {S V : Type 0} → Meaning S V → S → (ℕ → Bool) → Spot V → ℤ
spot_low m d v spot.Whole = pos 0
spot_low m d v (spot.At low) = low
spot_low m d v (spot.Variable index start) = lowest start.offset start.down start.signed (m.reads d v index.value)

-- what a target means under a valuation
abbrev pub hit_of : {S V : Type 0} → Meaning S V → S → (ℕ → Bool) → Target V → Hit
hit_of m d v t = record { vector = t.vector; low = spot_low m d v t.spot; count = t.length }

abbrev pub spot_most : {V : Type 0} → Bool → List ℕ → ℕ → ℕ → Spot V → ℕ
spot_most inside widths k n spot.Whole = n
spot_most inside widths k n (spot.At low) = most_in inside widths k
spot_most inside widths k n (spot.Variable index start) = most_in inside widths k

abbrev pub aim_of : {S V : Type 0} → Meaning S V → Bool → List ℕ → S → (ℕ → Bool) → Target V → Aim
aim_of m inside widths d v t = record { hit = hit_of m d v t; most = spot_most inside widths t.vector t.length t.spot }
