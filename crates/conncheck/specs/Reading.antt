-- Files are read one after the other.
use Rattle.std.specs.Prelude.{◌≡◌, List, [], ◌∷◌, Bool, true, false, Option, Some, None, nat_lt, length}
use Rattle.bits_core.specs.declared.names.File.{File}
use Rattle.shelf_io.specs.Files.{Files}
use Rattle.vl_tree.specs.declared.faults.Code.TheVariants as code
use Rattle.vl_tree.specs.Codes.{bound}
use Rattle.conncheck.specs.Reply.{Reply, missing, too_long}
use Rattle.conncheck.specs.Words.{Text}

abbrev pub OfLength : Bool → Text → (Text → Reply → Type 0) → Reply → Type 0
OfLength true bytes next r = r ≡ too_long
OfLength false bytes next r = next bytes r

-- the bytes of a file go on to what follows, unless they are too many
abbrev pub OfFile : Text → (Text → Reply → Type 0) → Option Text → Reply → Type 0
OfFile name next None r = r ≡ missing name
OfFile name next (Some bytes) r = OfLength (nat_lt (bound code.FileBytes) (length bytes)) bytes next r

-- files are read in order, and then all of them go on to what follows
abbrev pub OfFiles : List Text → Files → (List File → Reply → Type 0) → Reply → Type 0
OfFiles [] files next r = next [] r
OfFiles (n ∷ ns) files next r = OfFile n (λ bytes. OfFiles ns files (λ more. next (record { name = n; bytes = bytes } ∷ more))) (files n) r
