-- Bits that are known at a place of a body, by their numbers, and the trail of those that became known.
use Rattle.std.specs.Prelude.{◌≡◌, ℕ, Bool, false, ◌||◌, ◌==◌, List, ◌++◌, slice_index_or}
use Rattle.std.specs.List.{list_any}
use Rattle.item_order.specs.Circles.{IsOnce}

abbrev pub knows : List Bool → ℕ → Bool
knows known n = slice_index_or known n false

-- the bit is one of these
abbrev pub among : ℕ → List ℕ → Bool
among n bits = list_any (λ x. x == n) bits

-- the trail has the known bits, each once, and no others
pub record IsKept (known : List Bool) (trail : List ℕ) : Type 0 where
  pub same : (n : ℕ) → knows known n ≡ among n trail
  pub once : IsOnce trail

-- the trail has grown behind its end by bits of f, so that it has all of them
pub record Gains (old new : List ℕ) (f : ℕ → Bool) : Type 0 where
  pub more : List ℕ
  pub is : new ≡ old ++ more
  pub has : (n : ℕ) → among n new ≡ (among n old || f n)
