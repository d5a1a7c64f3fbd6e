-- What a call answers and prints.
use Rattle.std.specs.Prelude.{List, ◌++◌, Option, None, ◌≡◌, ◌⊎◌, if◌then◌else◌}
use Rattle.std.specs.Str.{bytes_eq}
use Rattle.std.specs.Io.KnownBytes.{Appends}
use Rattle.shelf_io.specs.Files.{Files}
use Rattle.shelf_io.specs.Sink.{AppendsPart}
use Rattle.conncheck.specs.Command.{Command, IsReply}
use Rattle.conncheck.specs.Reply.{Reply, joined, missing, text_of}
use Rattle.conncheck.specs.Words.{Text}
use Rattle.conncheck.specs.declared.status.Status.{Status}
use Rattle.conncheck.specs.declared.status.Status.TheVariants.{WriteFault, NoMemory}

-- the whole of some first pieces follows the bytes taken
pub record AppendsPieces (old new : Option Text) (pieces : List Text) : Type 0 where
  pub front : List Text
  pub back : List Text
  pub parts : front ++ back ≡ pieces
  pub follows : Appends old new (joined front)

-- the whole text and its status; after a failed write the whole of some first pieces and a part of the next; after want of memory some first pieces
abbrev pub Prints : Reply → Option Text → Option Text → Status → Type 0
Prints r old new WriteFault = AppendsPart old new (text_of r)
Prints r old new NoMemory = AppendsPieces old new r.pieces
Prints r old new s = (s ≡ r.status) × Appends old new (text_of r)

-- the files without that name
abbrev pub without : Text → Files → Files
without name files = λ n. if bytes_eq n name then None else files n

-- a read of this name failed: the reply is one for the files without it, and there it is that this name is missing
pub record FailsAt (Of : Files → Reply → Type 0) (files : Files) (r : Reply) : Type 0 where
  pub name : Text
  pub is : r ≡ missing name
  pub as_if_absent : Of (without name files) r

-- a reply for these files, or, where the shelf is not steady, a read that failed
abbrev pub Allows : Type 0 → (Files → Reply → Type 0) → Files → Reply → Type 0
Allows steady Of files r = Of files r ⊎ ((steady → ⊥) × FailsAt Of files r)

pub record Answers (steady : Type 0) (command : Option Command) (files : Files) (old new : Option Text) (s : Status) : Type 0 where
  pub reply : Reply
  pub allowed : Allows steady (IsReply command) files reply
  pub printed : Prints reply old new s
