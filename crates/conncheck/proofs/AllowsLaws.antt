-- The reply by what the reads gave.
use Rattle.std.proofs.Common.{rules, subst, ◌≡◌, ◌≤◌, ◌<◌, ℕ, Bool, true, false, length, Option, Some, None, IfSome, refl, sym, nat_lt}
use Rattle.shelf_io.specs.Files.{Files}
use Rattle.shelf_io.specs.Shelf.{IsLonger}
use Rattle.vl_tree.specs.declared.faults.Code.TheVariants as code
use Rattle.conncheck.specs.Answers.{without}
use Rattle.vl_tree.specs.Codes.{bound}
use Rattle.conncheck.specs.Reading.{OfFile, OfLength}
use Rattle.conncheck.specs.Reply.{Reply, missing, too_long}
use Rattle.conncheck.specs.Words.{Text}

pub told : {A : Type 0} (o : Option A) (P : A → Type 0) → ((x : A) → o ≡ Some x → P x) → IfSome o P
told None P f = tt
told (Some x) P f = f x refl

-- what holds where something is told
pub at_told : {A : Type 0} (o : Option A) (P : A → Type 0) (x : A) → IfSome o P → o ≡ Some x → P x
at_told None P x h e = cc
at_told (Some y) P x h e = let same : y ≡ x = cc in subst P same h

fits : (n : ℕ) → n ≤ bound code.FileBytes → nat_lt (bound code.FileBytes) n ≡ false
fits n le = search rules

passes : (over : ℕ) → bound code.FileBytes < over → nat_lt (bound code.FileBytes) over ≡ true
passes n lt = search rules

-- a file that was read
pub read_file : (name : Text) (next : Text → Reply → Type 0) (file : Option Text) (bytes : Text) (o : Reply) → file ≡ Some bytes → length bytes ≤ bound code.FileBytes → next bytes o → OfFile name next file o
read_file name next file bytes o e le h =
    let P : Option Text → Type 0 = λ f. OfFile name next f o in
    let Q : Bool → Type 0 = λ b. OfLength b bytes next o in
    subst P (sym e) (subst Q (sym (fits (length bytes) le)) h)

pub gone_file : (name : Text) (next : Text → Reply → Type 0) (file : Option Text) → file ≡ None → OfFile name next file (missing name)
gone_file name next file e = let P : Option Text → Type 0 = λ f. OfFile name next f (missing name) in subst P (sym e) refl

pub long_file : (name : Text) (next : Text → Reply → Type 0) (file : Option Text) → IsLonger (bound code.FileBytes) file → OfFile name next file too_long
long_file name next None h = absurd h
long_file name next (Some bytes) h = let Q : Bool → Type 0 = λ b. OfLength b bytes next too_long in subst Q (sym (passes (length bytes) h)) refl

-- there is an reply, whatever the file is
pub any_file : (name : Text) (next : Text → Reply → Type 0) (file : Option Text) → ((bytes : Text) → (x : Reply) × next bytes x) → (x : Reply) × OfFile name next file x
any_file name next None h = (missing name, refl)
any_file name next (Some bytes) h = at (nat_lt (bound code.FileBytes) (length bytes))
  where
    at : (b : Bool) → (x : Reply) × OfLength b bytes next x
    at true = (too_long, refl)
    at false = h bytes

pub absent : (files : Files) (name : Text) → without name files name ≡ None
absent files name = search rules
