-- What running items leaves: the assignment cell by cell, and what is stored cell by cell.
use Rattle.std.specs.Prelude.{◌≡◌, ℕ, ◌<◌, true, false, ◌&&◌, if◌then◌else◌, List, [], ◌∷◌, length, map, slice_index_or}
use Rattle.design_core.specs.declared.place.BitRef.{BitRef}
use Rattle.design_core.specs.declared.items.Item.{Item}
use Rattle.design_core.specs.Core.{stmt_reads}
use Rattle.design_core.specs.Needs.{targets}
use Rattle.design_core.specs.Cells.{Bitmap, Cell, In, settle}
use Rattle.design_core.specs.Items.{CoreItem, assign, comb, clocked, reset_by, cell_of}
use Rattle.design_core.specs.Parts.{item_of}
use Rattle.design_core.specs.Wellformed.{tree_fits}
use Rattle.stmt_exec.specs.State.{size_in}

-- an item as a cell, where the signals have these lengths
abbrev pub cell_in : List ℕ → Item → Cell BitRef
cell_in vs i = cell_of (item_of (size_in vs) i)

-- an assign and a combinational process write at once alone, a clocked process and a reset branch at the end of the cycle alone, and a branch reads no signal
abbrev pub KeepsKind : CoreItem → Type 0
KeepsKind (assign l e) = Unit {0}
KeepsKind (comb body) = (b : BitRef) → targets false body b ≡ false
KeepsKind (clocked body) = (b : BitRef) → targets true body b ≡ false
KeepsKind (reset_by r asserted branch body) = ((b : BitRef) → targets true body b ≡ false) × ((b : BitRef) → targets true branch b ≡ false) × ((b : BitRef) → stmt_reads branch b ≡ false)

-- an item that is formed, where the signals have these lengths
pub record Fits (vs : List ℕ) (i : Item) : Type 0 where
  pub formed : tree_fits vs (size_in vs) i ≡ true
  pub kind : KeepsKind (item_of (size_in vs) i)

-- the number of an item that is formed; other items may be formed for other lengths alone
abbrev pub CanRun : List ℕ → List Item → ℕ → Type 0
CanRun vs items n = (n < length items) × ((d : Item) → Fits vs (slice_index_or items n d))

-- the assignment with the bits that a cell drives as the cell gives them
abbrev pub given_by : {B : Type 0} → Cell B → Bitmap B → Bitmap B → Bitmap B
given_by c s σ b = if c.drives b then c.within s σ b else σ b

-- what is to be stored, with the bits that a clocked cell drives as the cell gives them
abbrev pub stored_by : {B : Type 0} → Cell B → Bitmap B → Bitmap B → Bitmap B → Bitmap B
stored_by c s σ η b = if c.clocked && c.drives b then c.after s σ b else η b

-- cell by cell
abbrev pub store : {B : Type 0} → List (Cell B) → Bitmap B → Bitmap B → Bitmap B → Bitmap B
store [] s σ η = η
store (c ∷ cs) s σ η = store cs s σ (stored_by c s σ η)

-- before a cycle each register reads as it is stored
abbrev pub Ready : {B : Type 0} → Cell B → Bitmap B → Bitmap B → Type 0
Ready {B = B} c s σ = (b : B) → c.clocked ≡ true → c.drives b ≡ true → σ b ≡ s b

-- after a cell, from stored bits s and an assignment σ: the assignment is τ, with the bits that it drives as it gives them, and what is stored is kept
pub record IsGiven {B : Type 0} (c : Cell B) (s σ η τ : Bitmap B) : Type 0 where
  pub assigned : Ready c s σ → τ ≡ given_by c s σ
  pub kept : η ≡ s

-- after a cell, from an assignment σ and what is to be stored η: that is θ, with the bits that the cell stores, and the assignment is kept
pub record IsStored {B : Type 0} (c : Cell B) (s σ η τ θ : Bitmap B) : Type 0 where
  pub stored : ((b : B) → c.clocked ≡ true → c.drives b ≡ true → η b ≡ s b) → θ ≡ stored_by c s σ η
  pub kept : τ ≡ σ

-- each register among the cells reads as it is stored
abbrev pub AllReady : {B : Type 0} → List (Cell B) → Bitmap B → Bitmap B → Type 0
AllReady {B = B} cs s σ = (c : Cell B) → In c cs → Ready c s σ

-- after these cells in turn, from stored bits s and an assignment σ: the assignment is the settled one, and what is stored is kept
pub record IsSettled {B : Type 0} (cs : List (Cell B)) (s σ η τ : Bitmap B) : Type 0 where
  pub assigned : τ ≡ settle cs s σ
  pub kept : η ≡ s

-- after these cells in turn, from an assignment σ and stored bits s: what is to be stored is as they give it, and the assignment is kept
pub record IsKept {B : Type 0} (cs : List (Cell B)) (s σ τ θ : Bitmap B) : Type 0 where
  pub stored : θ ≡ store cs s σ s
  pub kept : τ ≡ σ
