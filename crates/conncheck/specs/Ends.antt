-- How the inner calls end.
use Rattle.std.specs.Prelude.{ℕ, ◌+◌, ◌++◌, take, List, [], ⊤, Option, Result, Ok, Err, ◌≡◌, ◌≤◌}
use Rattle.std.specs.Io.KnownBytes.{Appends}
use Rattle.shelf_io.specs.Cause.{Rose}
use Rattle.shelf_io.specs.Files.{Files}
use Rattle.shelf_io.specs.Sink.{AppendsPart}
use Rattle.bits_core.specs.declared.names.File.{File}
use Rattle.vl_tree.specs.declared.faults.Stop as walk
use Rattle.vl_tree.specs.declared.faults.Stop.TheVariants as stop
use Rattle.conncheck.specs.Answers.{Allows, AppendsPieces}
use Rattle.conncheck.specs.Causes.{BadWordsCause, WriteFaultCause}
use Rattle.conncheck.specs.Command.{Command}
use Rattle.conncheck.specs.Reply.{Reply, joined, limited, refused, text_of}
use Rattle.conncheck.specs.Texts.{place_text}
use Rattle.conncheck.specs.Words.{Text}
use Rattle.conncheck.specs.declared.message.Message.{Message}
use Rattle.conncheck.specs.declared.message.Message.TheVariants as message
use Rattle.conncheck.specs.declared.status.Status.{Status}
use Rattle.conncheck.specs.declared.status.Status.TheVariants.{BadWords, NoMemory, ReadFault, WriteFault}
use Rattle.conncheck.specs.declared.status.Stop.{Stop}
use Rattle.conncheck.specs.declared.status.Stop.TheVariants.{Write, Memory}

-- the whole text with its status, a part of it, or some first pieces
abbrev pub Ends : Reply → Option Text → Option Text → Result Status Stop → Type 0
Ends r old new (Ok s) = (s ≡ r.status) × Appends old new (text_of r)
Ends r old new (Err Write) = AppendsPart old new (text_of r)
Ends r old new (Err Memory) = AppendsPieces old new r.pieces

-- one piece more, a part of it, or nothing
abbrev pub Adds : {T : Type 0} → Text → Option Text → Option Text → Result T Stop → Type 0
Adds piece old new (Ok _) = Appends old new piece
Adds piece old new (Err Write) = AppendsPart old new piece
Adds piece old new (Err Memory) = Appends old new []

-- Of the rows that were decided in a call, each but the last was printed: so many of the texts, in order, went out whole, and whatever followed.
pub record PrintsEach (before now : ℕ) (texts : List Text) (old new : Option Text) : Type 0 where
  pub printed : ℕ
  pub each : now ≤ before + printed + 1
  pub rest : Text
  pub follows : Appends old new (joined (take printed texts) ++ rest)

abbrev pub SinkCause : ℕ → ℕ → Result Status Stop → Type 0
SinkCause before now (Ok s) = WriteFaultCause before now s
SinkCause before now (Err Write) = Rose before now
SinkCause before now (Err Memory) = now ≡ before

abbrev pub PieceCause : {T : Type 0} → ℕ → ℕ → Result T Stop → Type 0
PieceCause before now (Ok _) = now ≡ before
PieceCause before now (Err Write) = Rose before now
PieceCause before now (Err Memory) = now ≡ before

abbrev pub ShelfCause : ℕ → ℕ → Result Status Stop → Type 0
ShelfCause before now (Ok ReadFault) = Rose before now
ShelfCause before now (Ok _) = now ≡ before
ShelfCause before now (Err _) = before ≤ now

abbrev pub IsNoBadWords : Result Status Stop → Type 0
IsNoBadWords (Ok BadWords) = ⊥
IsNoBadWords _ = ⊤

abbrev pub WordsCause : Option Command → Result Status Stop → Type 0
WordsCause command (Ok s) = BadWordsCause command s
WordsCause command (Err Write) = BadWordsCause command WriteFault
WordsCause command (Err Memory) = BadWordsCause command NoMemory

-- what a command answers once its files are read
abbrev pub IsOfBytes : Result Status Stop → Type 0
IsOfBytes (Ok BadWords) = ⊥
IsOfBytes (Ok ReadFault) = ⊥
IsOfBytes _ = ⊤

-- what a message answers
abbrev pub IsOfMessage : Message → Result Status Stop → Type 0
IsOfMessage message.BadWords r = ⊤
IsOfMessage (message.Missing name) r = IsNoBadWords r
IsOfMessage _ r = IsOfBytes r

-- what is said where a walk over these files ends early
abbrev pub StopEnds : walk.Stop → List File → Option Text → Option Text → Result Status Stop → Type 0
StopEnds (stop.Fault f) files old new r = Ends (refused f.code (place_text files f.place)) old new r
StopEnds (stop.Limit l) files old new r = Ends (limited l) old new r
StopEnds stop.NoMemory files old new r = (new ≡ old) × (r ≡ Err Memory)

-- with a reply of this kind
pub record EndsBy (Is : Reply → Type 0) (old new : Option Text) (r : Result Status Stop) : Type 0 where
  pub reply : Reply
  pub is : Is reply
  pub ended : Ends reply old new r

-- with a reply that the files allow
pub record EndsFor (steady : Type 0) (Of : Files → Reply → Type 0) (files : Files) (old new : Option Text) (r : Result Status Stop) : Type 0 where
  pub reply : Reply
  pub allowed : Allows steady Of files reply
  pub ended : Ends reply old new r
