-- Files by their names.
use Rattle.std.specs.Prelude.{List, ℕ, Option}

-- the bytes of each name that is there
abbrev pub Files : Type 0
Files = List ℕ → Option (List ℕ)
