-- What a write to a sink answers.
use Rattle.std.specs.Prelude.{List, ℕ, Option, Result, Ok, Err, ◌≡◌, ◌++◌}
use Rattle.std.specs.Io.KnownBytes.{Appends}
use Rattle.shelf_io.specs.Cause.{Rose}

-- an error comes only where the count rose, and `Ok` leaves the count
abbrev pub WriteCause : {T E : Type 0} → ℕ → ℕ → Result T E → Type 0
WriteCause before now (Ok _) = now ≡ before
WriteCause before now (Err _) = Rose before now

-- some first part of the piece follows the bytes taken
pub record AppendsPart (old new : Option (List ℕ)) (piece : List ℕ) : Type 0 where
  pub part : List ℕ
  pub rest : List ℕ
  pub parts : part ++ rest ≡ piece
  pub follows : Appends old new part

-- `Ok` takes the whole piece, and an error a first part of it
abbrev pub WritesAll : {T E : Type 0} → Option (List ℕ) → Option (List ℕ) → List ℕ → Result T E → Type 0
WritesAll old new piece (Ok _) = Appends old new piece
WritesAll old new piece (Err _) = AppendsPart old new piece
