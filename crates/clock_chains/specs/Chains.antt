-- Signals that a listed clock reaches through items that are plain names of one bit.
use Rattle.std.specs.Prelude.{◌≡◌, ℕ, ◌<◌, Bool, true, false, List, length, slice_index_or}
use Rattle.design_core.specs.Cells.{In}
use Rattle.clock_chains.specs.declared.chains.Step.{Step}

-- the signal is a listed clock, or takes the value of a signal to which a listed clock leads
pub data Leads (steps : List Step) (clocks : List ℕ) : ℕ → Type 0 where
  listed : {k : ℕ} → In k clocks → Leads steps clocks k
  by_step : {s : Step} → In s steps → Leads steps clocks s.from → Leads steps clocks s.to

-- it is told of a signal whether a listed clock leads to it
abbrev pub IsTold : List Step → List ℕ → ℕ → Bool → Type 0
IsTold steps clocks k true = Leads steps clocks k
IsTold steps clocks k false = ¬ Leads steps clocks k

-- it is told of each of so many signals
pub record AreTold (steps : List Step) (clocks : List ℕ) (count : ℕ) (told : List Bool) : Type 0 where
  pub many : length told ≡ count
  pub each : (k : ℕ) → k < count → IsTold steps clocks k (slice_index_or told k false)
