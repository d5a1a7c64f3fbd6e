-- What the reads of files answer.
use Rattle.std.specs.Prelude.{ℕ, ◌≡◌, ◌≤◌, List, [], ◌∷◌, ◌++◌, length, Option, Some, None, Result, Ok, Err, ⊤}
use Rattle.bits_core.specs.declared.names.File.{File}
use Rattle.shelf_io.specs.Cause.{Rose}
use Rattle.shelf_io.specs.Files.{Files}
use Rattle.shelf_io.specs.Shelf.{IsLonger}
use Rattle.vl_lex.specs.Sources.{file_of}
use Rattle.vl_lex.specs.declared.source.Source.{Source}
use Rattle.conncheck.specs.Words.{Text}
use Rattle.conncheck.specs.Ends.{Ends}
use Rattle.vl_tree.specs.declared.faults.Code.TheVariants as code
use Rattle.vl_tree.specs.Codes.{bound}
use Rattle.conncheck.specs.Reply.{missing, too_long}
use Rattle.conncheck.specs.declared.reads.Unread.{Unread}
use Rattle.conncheck.specs.declared.reads.Unread.TheVariants.{Missing, TooLong, NoMemory}
use Rattle.conncheck.specs.declared.status.Status.{Status}
use Rattle.conncheck.specs.declared.status.Stop.{Stop}
use Rattle.conncheck.specs.declared.status.Stop.TheVariants.{Memory}

-- a file of this name, as the shelf tells it
pub record IsRead (files : Files) (name : Text) (f : File) : Type 0 where
  pub is_named : f.name ≡ name
  pub is_there : files name ≡ Some f.bytes
  pub fits : length f.bytes ≤ bound code.FileBytes

-- one file for each name, in order
abbrev pub AreRead : Files → List Text → List File → Type 0
AreRead files [] [] = ⊤
AreRead files (n ∷ ns) (f ∷ fs) = IsRead files n f × AreRead files ns fs
AreRead files _ _ = ⊥

-- the files before this name were read
pub record Reaches (files : Files) (names : List Text) (name : Text) : Type 0 where
  pub front : List Text
  pub back : List Text
  pub parts : front ++ (name ∷ back) ≡ names
  pub before : List File
  pub are_read : AreRead files front before

-- Missing comes only where the count of faults rose
abbrev pub UnreadCause : Unread → ℕ → ℕ → Type 0
UnreadCause (Missing n) before now = Rose before now
UnreadCause TooLong before now = now ≡ before
UnreadCause NoMemory before now = now ≡ before

abbrev pub ReadsCause : {T : Type 0} → ℕ → ℕ → Result T Unread → Type 0
ReadsCause before now (Ok _) = now ≡ before
ReadsCause before now (Err u) = UnreadCause u before now

-- one file
abbrev pub ReadsOne : Type 0 → Files → Text → Result File Unread → Type 0
ReadsOne steady files name (Ok f) = IsRead files name f
ReadsOne steady files name (Err (Missing n)) = (n.now ≡ name) × (steady → files name ≡ None)
ReadsOne steady files name (Err TooLong) = IsLonger (bound code.FileBytes) (files name)
ReadsOne steady files name (Err NoMemory) = ⊤

-- the same where the bytes are in the caller's keeping
abbrev pub ReadsSource : Type 0 → Files → Text → Result Source Unread → Type 0
ReadsSource steady files name (Ok s) = IsRead files name (file_of s)
ReadsSource steady files name (Err u) = ReadsOne steady files name (Err u)

-- the first name that is too long
pub record MeetsLonger (files : Files) (names : List Text) : Type 0 where
  pub name : Text
  pub reaches : Reaches files names name
  pub longer : IsLonger (bound code.FileBytes) (files name)

-- where not all files are read
abbrev pub StopsAt : Type 0 → Files → List Text → Unread → Type 0
StopsAt steady files names (Missing n) = Reaches files names n.now × (steady → files n.now ≡ None)
StopsAt steady files names TooLong = MeetsLonger files names
StopsAt steady files names NoMemory = ⊤

abbrev pub ReadsAll : Type 0 → Files → List Text → Result (List File) Unread → Type 0
ReadsAll steady files names (Ok fs) = AreRead files names fs
ReadsAll steady files names (Err u) = StopsAt steady files names u

-- what is said of files that are not read
abbrev pub UnreadEnds : Unread → Option Text → Option Text → Result Status Stop → Type 0
UnreadEnds (Missing n) old new r = Ends (missing n.now) old new r
UnreadEnds TooLong old new r = Ends too_long old new r
UnreadEnds NoMemory old new r = (new ≡ old) × (r ≡ Err Memory)
