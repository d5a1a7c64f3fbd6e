-- What a read of a shelf answers.
use Rattle.std.specs.Prelude.{List, ℕ, Option, Some, None, Result, Ok, Err, ◌≡◌, ◌≤◌, ◌<◌, length, ⊤}
use Rattle.shelf_io.specs.Cause.{Rose}
use Rattle.shelf_io.specs.declared.shelf.ShelfError.{ShelfError}
use Rattle.shelf_io.specs.declared.shelf.ShelfError.TheVariants.{Failed, TooLong, NoMemory}

-- `Failed` comes only where the count rose, and no other answer changes it
abbrev pub ReadCause : {T : Type 0} → ℕ → ℕ → Result T ShelfError → Type 0
ReadCause before now (Ok _) = now ≡ before
ReadCause before now (Err Failed) = Rose before now
ReadCause before now (Err TooLong) = now ≡ before
ReadCause before now (Err NoMemory) = now ≡ before

-- the file is there and longer than this
abbrev pub IsLonger : ℕ → Option (List ℕ) → Type 0
IsLonger most None = ⊥
IsLonger most (Some bytes) = most < length bytes

-- `Ok` has the bytes of the file, at most `most`, and `TooLong` comes where it has more
abbrev pub ReadsFile : {T : Type 0} → (T → List ℕ) → Option (List ℕ) → ℕ → Result T ShelfError → Type 0
ReadsFile bytes_of file most (Ok bytes) = (file ≡ Some (bytes_of bytes)) × (length (bytes_of bytes) ≤ most)
ReadsFile bytes_of file most (Err TooLong) = IsLonger most file
ReadsFile bytes_of file most (Err Failed) = ⊤
ReadsFile bytes_of file most (Err NoMemory) = ⊤

-- a read fails only where there is no file
abbrev pub AbsentIfFailed : {T : Type 0} → Option (List ℕ) → Result T ShelfError → Type 0
AbsentIfFailed file (Err Failed) = file ≡ None
AbsentIfFailed file _ = ⊤

-- a read fails exactly where there is no file
abbrev pub FailsWhereAbsent : {T : Type 0} → Option (List ℕ) → Result T ShelfError → Type 0
FailsWhereAbsent None (Err Failed) = ⊤
FailsWhereAbsent None _ = ⊥
FailsWhereAbsent (Some _) (Err Failed) = ⊥
FailsWhereAbsent (Some _) _ = ⊤
