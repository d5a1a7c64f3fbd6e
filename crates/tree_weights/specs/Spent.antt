-- A weight that is taken from a number.
use Rattle.std.specs.Prelude.{◌≡◌, ℕ, ◌+◌, ◌<◌, Option, MatchOption}

-- what is left of the number; none exactly where the weight is more than it
abbrev pub IsSpent : ℕ → ℕ → Option ℕ → Type 0
IsSpent weight room result = MatchOption result (room < weight) (λ rest. room ≡ weight + rest)
