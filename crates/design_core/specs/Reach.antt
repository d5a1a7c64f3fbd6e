-- Bits cycle by cycle on which a row depends, by the needs of each bit.
use Rattle.std.specs.Prelude.{◌≡◌, ℕ, suc, ◌≤◌, Bool, true, false, ◌&&◌, ◌⊎◌, List, [], ◌∷◌, map}
use Rattle.design_core.specs.Cells.{Bitmap, Cell, In, Holds}
use Rattle.design_core.specs.Rows.{Row}
use Rattle.design_core.specs.declared.place.BitRef.{BitRef}
use Rattle.design_core.specs.Core.{Stmt, write, stmt_reads, drives}
use Rattle.design_core.specs.Covers.{Completes}
use Rattle.design_core.specs.Needs.{writes_local, targets, known_later, needed_for, BodyNeeds}
use Rattle.design_core.specs.Items.{CoreItem, assign, comb, clocked, reset_by, cell_of, IsGood}

-- what single bits of a cell depend on
pub record HasNeeds {B : Type 0} (c : Cell B) (needs : B → B → Type 0) : Type 0 where
  pub among_reads : c.clocked ≡ false → (b a : B) → c.drives b ≡ true → needs b a → c.reads a ≡ true
  pub within_needs : (s t σ τ : Bitmap B) (b : B) → c.clocked ≡ false → c.drives b ≡ true
      → ((a : B) → needs b a → σ a ≡ τ a) → c.within s σ b ≡ c.within t τ b
  pub after_needs : (s t σ τ : Bitmap B) (b : B) → c.clocked ≡ true → c.drives b ≡ true → Holds c s σ → Holds c t τ
      → ((a : B) → needs b a → σ a ≡ τ a) → c.after s σ b ≡ c.after t τ b

-- what a row reaches: its source bits at cycle 0, its destination bits at the latency, its condition bits in each cycle, and what these need:
-- of a bit that an assign or a combinational process drives its needs in the same cycle, of a register its reset bit in the same cycle and its needs a cycle before
pub data Reach {B : Type 0} (E : List (Cell B)) (needs : Cell B → B → B → Type 0) (row : Row B) : ℕ → B → Type 0 where
  source : (p : B × B) → In p row.pairs → Reach E needs row 0 p.0
  dest : (p : B × B) → In p row.pairs → Reach E needs row row.latency p.1
  condition : (k : ℕ) → k ≤ row.latency → (c : B × Bool) → In c row.conditions → Reach E needs row k c.0
  wire : {k : ℕ} {b : B} (c : Cell B) → In c E → c.clocked ≡ false → c.drives b ≡ true → Reach E needs row k b → (a : B) → needs c b a → Reach E needs row k a
  reset : {k : ℕ} {b : B} (c : Cell B) → In c E → c.clocked ≡ true → c.drives b ≡ true → Reach E needs row k b → (a : B) → c.reads a ≡ true → Reach E needs row k a
  before : {k : ℕ} {b : B} (c : Cell B) → In c E → c.clocked ≡ true → c.drives b ≡ true → Reach E needs row (suc k) b → (a : B) → needs c b a → Reach E needs row k a

-- no register is reached at cycle 0
abbrev pub IsLaunchFree : {B : Type 0} → List (Cell B) → (Cell B → B → B → Type 0) → Row B → Type 0
IsLaunchFree {B = B} E needs row = (c : Cell B) → In c E → c.clocked ≡ true → (b : B) → c.drives b ≡ true → ¬ Reach E needs row 0 b

-- a set of pairs of a cycle and a bit that holds what its members need, and no register at cycle 0
pub record IsFreeReach {B : Type 0} (E : List (Cell B)) (needs : Cell B → B → B → Type 0) (Q : ℕ → B → Type 0) : Type 0 where
  pub wires : (k : ℕ) (c : Cell B) → In c E → c.clocked ≡ false → (b a : B) → c.drives b ≡ true → Q k b → needs c b a → Q k a
  pub resets : (k : ℕ) (c : Cell B) → In c E → c.clocked ≡ true → (b a : B) → c.drives b ≡ true → Q k b → c.reads a ≡ true → Q k a
  pub befores : (k : ℕ) (c : Cell B) → In c E → c.clocked ≡ true → (b a : B) → c.drives b ≡ true → Q (suc k) b → needs c b a → Q k a
  pub launch_free : (c : Cell B) → In c E → c.clocked ≡ true → (b : B) → c.drives b ≡ true → ¬ Q 0 b

-- the bits that a row names are in the set at their cycles
pub record IsReached {B : Type 0} (Q : ℕ → B → Type 0) (row : Row B) : Type 0 where
  pub sources_in : (p : B × B) → In p row.pairs → Q 0 p.0
  pub dests_in : (p : B × B) → In p row.pairs → Q row.latency p.1
  pub conditions_in : (k : ℕ) → k ≤ row.latency → (c : B × Bool) → In c row.conditions → Q k c.0

-- what a bit needs of its item, where `full` and `branch_full` are the body and the reset branch with covering cases completed: of an assign all that it reads;
-- of a combinational process what its body needs for the bit and does not drive itself; of a clocked process what its body reads for the bit, the reset bit, and,
-- unless every path writes the bit, the reset branch among them, the bit itself
abbrev pub item_needs : CoreItem → Stmt → Stmt → BitRef → BitRef → Type 0
item_needs (assign l e) full branch_full b a = stmt_reads (write l e true) a ≡ true
item_needs (comb body) full branch_full b a = BodyNeeds body b a × (drives body a ≡ false)
item_needs (clocked body) full branch_full b a = (needed_for body b a ≡ true) ⊎ ((a ≡ b) × (known_later full (λ c. false) b ≡ false))
item_needs (reset_by r asserted branch body) full branch_full b a = (needed_for body b a ≡ true) ⊎ ((a ≡ r)
    ⊎ ((a ≡ b) × ((known_later branch_full (λ c. false) b && known_later full (λ c. false) b) ≡ false)))

-- a body of a process writes no locals, and of a clocked one nothing at once
pub record IsClockedBody (body full : Stmt) : Type 0 where
  pub completes : Completes body full
  pub no_local : writes_local body ≡ false
  pub nothing_now : (b : BitRef) → targets true body b ≡ false

-- the bodies are those of a process, with their completed forms
abbrev pub IsProcess : CoreItem → Stmt → Stmt → Type 0
IsProcess (assign l e) full branch_full = Unit {0}
IsProcess (comb body) full branch_full = writes_local body ≡ false
IsProcess (clocked body) full branch_full = IsClockedBody body full
IsProcess (reset_by r asserted branch body) full branch_full = IsClockedBody body full × IsClockedBody branch branch_full

-- an item with its completed bodies
pub record Process : Type 0 where
  pub item : CoreItem
  pub full : Stmt
  pub branch_full : Stmt

abbrev pub process_cells : List Process → List (Cell BitRef)
process_cells ps = map (λ (p : Process). cell_of p.item) ps

-- what a bit needs of a cell: what it needs of the item that has this cell
abbrev pub needs_in : List Process → Cell BitRef → BitRef → BitRef → Type 0
needs_in [] c b a = ⊥
needs_in (p ∷ ps) c b a = ((c ≡ cell_of p.item) × item_needs p.item p.full p.branch_full b a) ⊎ needs_in ps c b a

-- the items are good, and their bodies are those of processes
abbrev pub AreProcesses : List Process → Type 0
AreProcesses ps = (p : Process) → In p ps → IsGood p.item × IsProcess p.item p.full p.branch_full
