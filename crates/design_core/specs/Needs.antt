-- What single bits of a body need.
use Rattle.std.specs.Prelude.{◌≡◌, Bool, true, false, not, ◌&&◌, ◌||◌}
use Rattle.design_core.specs.declared.place.BitRef.{BitRef}
use Rattle.design_core.specs.Core.{signal, local, Left, nowhere, both, slice, slice_at, Stmt, skip, seq, write, choose, reads, left_reads, left_drives, drives, surely_names}

-- the left side names a local
abbrev pub names_local : Left → Bool
names_local nowhere = false
names_local (both x y) = names_local x || names_local y
names_local (slice (signal s) m low n) = false
names_local (slice (local s) m low n) = true
names_local (slice_at (signal s) m f e n) = false
names_local (slice_at (local s) m f e n) = true

abbrev pub writes_local : Stmt → Bool
writes_local skip = false
writes_local (seq x y) = writes_local x || writes_local y
writes_local (write l e blocking) = names_local l
writes_local (choose c x y) = writes_local x || writes_local y

-- the bits that the blocking writes, or the others, may write
abbrev pub targets : Bool → Stmt → BitRef → Bool
targets k skip b = false
targets k (seq x y) b = targets k x b || targets k y b
targets true (write l e true) b = left_drives l b
targets true (write l e false) b = false
targets false (write l e true) b = false
targets false (write l e false) b = left_drives l b
targets k (choose c x y) b = targets k x b || targets k y b

-- the bits with a known stored value after a body, as `known` for the others
abbrev pub known_later : Stmt → (BitRef → Bool) → BitRef → Bool
known_later skip C b = C b
known_later (seq x y) C b = known_later y (known_later x C) b
known_later (write l e blocking) C b = C b || (not blocking && surely_names l b)
known_later (choose c x y) C b = known_later x C b && known_later y C b

-- bit a is read by an assignment that may write b, in its right side or an index on its left, or by a test round such an assignment
abbrev pub needed_for : Stmt → BitRef → BitRef → Bool
needed_for skip b a = false
needed_for (seq x y) b a = needed_for x b a || needed_for y b a
needed_for (write l e blocking) b a = left_drives l b && (reads e a || left_reads l a)
needed_for (choose c x y) b a = ((drives x b || drives y b) && reads c a) || (needed_for x b a || needed_for y b a)

-- what a bit needs of a combinational body: what is read for it, and what is read for the bits of the same body among these; this is the least such set
pub data BodyNeeds (body : Stmt) (b : BitRef) : BitRef → Type 0 where
  at_once : {a : BitRef} → needed_for body b a ≡ true → BodyNeeds body b a
  through : {c a : BitRef} → BodyNeeds body b c → drives body c ≡ true → needed_for body c a ≡ true → BodyNeeds body b a
