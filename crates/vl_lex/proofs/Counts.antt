-- Counts are within the length.
use Rattle.std.proofs.Common.{ℕ, ◌≤◌, Bool, List, length, count_by}
use Rattle.std.proofs.lemmas.List.Sums.{count_by-le-length}

pub counted : (p : ℕ → Bool) (xs : List ℕ) → count_by p xs ≤ length xs
counted p xs = count_by-le-length p xs
