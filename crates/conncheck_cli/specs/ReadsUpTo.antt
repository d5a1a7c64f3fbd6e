-- What a reader gives up to its end.
use Rattle.std.specs.Prelude.{ℕ, ◌≡◌, ◌≤◌, ◌<◌, List, length, Option, IfSome, Result, Ok, Err, ⊤}
use Rattle.conncheck_cli.specs.declared.real_shelf.Unread.{Unread}
use Rattle.conncheck_cli.specs.declared.real_shelf.Unread.TheVariants.{Failed, TooLong, NoMemory}

-- All bytes that the reader had left, at most so many; and it is too long where it had more. Each holds where the reader tells its bytes.
abbrev pub ReadsUpTo : {T : Type 0} → (T → List ℕ) → ℕ → Option (List ℕ) → Result T Unread → Type 0
ReadsUpTo bytes_of most left (Ok b) = (length (bytes_of b) ≤ most) × IfSome left (λ xs. bytes_of b ≡ xs)
ReadsUpTo bytes_of most left (Err TooLong) = IfSome left (λ xs. most < length xs)
ReadsUpTo bytes_of most left (Err (Failed _)) = ⊤
ReadsUpTo bytes_of most left (Err NoMemory) = ⊤
