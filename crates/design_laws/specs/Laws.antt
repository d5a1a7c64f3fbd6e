-- The laws of designs, each as one statement.
use Rattle.std.specs.Prelude.{◌≡◌, ℕ, ◌+◌, ◌<◌, ◌≤◌, Bool, true, false, ◌||◌, List, length, map, ◌↔◌, Option, Some, None}
use Rattle.std.specs.List.{filter}
use Rattle.design_core.specs.declared.place.BitRef.{BitRef}
use Rattle.design_core.specs.declared.items.Item.{Item}
use Rattle.design_core.specs.declared.design.Design.{Design}
use Rattle.design_core.specs.declared.signals.Signal.{Signal}
use Rattle.design_core.specs.Designs.{cells, cut_cells}
use Rattle.design_core.specs.Numbers.{chosen_cells}
use Rattle.design_core.specs.Parts.{length_at, item_cell}
use Rattle.design_core.specs.Wellformed.{item_fits, signal_lengths, carried_weight, weight_of, silent_stmt}
use Rattle.design_core.specs.Core.{Assignment, Term, Stmt, St, value, exec, reads, stmt_reads, drives}
use Rattle.design_core.specs.Covers.{Completes}
use Rattle.design_core.specs.Cells.{Bitmap, Cell, In, driven, states, assigned, IsLawful, IsOrdered, Holds, Settled, IsTrace, IsSlice, IsClosedFrom, IsSliceOf, read_by, cell_reads}
use Rattle.design_core.specs.Rows.{Row, Query, last_of, Hits, IsAbout, row_bit, CanHit, CanBreak, IsValid, IsChecked}
use Rattle.design_core.specs.Items.{CoreItem, cell_of, item_reads, IsGood}
use Rattle.design_core.specs.Plain.{IsLeft, stored_next}
use Rattle.design_core.specs.Setups.{held_in_window, held_in_run}
use Rattle.design_core.specs.Reach.{HasNeeds, IsFreeReach, IsReached, IsLaunchFree, item_needs, IsProcess, Process, process_cells, needs_in, AreProcesses}
use Rattle.design_core.specs.Leaves.{Leaf, IsLeafOf, IsFirstHit, IsFirstBreak}
use Rattle.design_core.specs.Names.{named_leaf, Seen}

-- the value of an expression depends on the bits that it reads alone
abbrev pub ValueByReads : Type 0
ValueByReads = (e : Term) (σ τ : Assignment) (locals : List (List Bool)) → ((b : BitRef) → reads e b ≡ true → σ b ≡ τ b) → value e σ locals ≡ value e τ locals

-- what a statement leaves at a bit depends on the bits that it reads and on that bit alone, and what it leaves in the locals on the bits that it reads
pub record Follows (s : Stmt) (t u : St) : Type 0 where
  pub now_same : (b : BitRef) → t.now b ≡ u.now b → (exec s t).now b ≡ (exec s u).now b
  pub later_same : (b : BitRef) → t.later b ≡ u.later b → (exec s t).later b ≡ (exec s u).later b
  pub locals_same : (exec s t).locals ≡ (exec s u).locals

abbrev pub ExecByReads : Type 0
ExecByReads = (s : Stmt) (t u : St) → ((b : BitRef) → stmt_reads s b ≡ true → t.now b ≡ u.now b) → t.locals ≡ u.locals → Follows s t u

-- a statement changes the bits that it drives alone
abbrev pub ExecByDrives : Type 0
ExecByDrives = (s : Stmt) (t : St) (b : BitRef) → drives s b ≡ false → ((exec s t).now b ≡ t.now b) × ((exec s t).later b ≡ t.later b)

-- a case that always finds its item may take its last arm untested
abbrev pub CaseCovers : Type 0
CaseCovers = (s full : Stmt) → Completes s full → (t : St) → exec full t ≡ exec s t

-- exactly one settled assignment for each stored state and input
abbrev pub SettlesOnce : Type 0
SettlesOnce = (items : List CoreItem) (s i : Bitmap BitRef) → IsOrdered (map cell_of items) → ((x : CoreItem) → In x items → IsGood x)
    → (σ : Bitmap BitRef) × (Settled (map cell_of items) s i σ × ((τ : Bitmap BitRef) → Settled (map cell_of items) s i τ → τ ≡ σ))

-- in a settled cycle each item leaves the assignment as it is, and the other way round
abbrev pub SettledPlain : Type 0
SettledPlain = (x : CoreItem) (s σ : Assignment) → Holds (cell_of x) s σ ↔ IsLeft x s σ

-- what an item stores is the last write to the bit, or the value that it had; and a cell reads what its item reads
abbrev pub NextPlain : Type 0
NextPlain = (x : CoreItem) (s σ : Assignment) (b : BitRef) → (cell_of x).after s σ b ≡ stored_next x s σ b

abbrev pub ReadsPlain : Type 0
ReadsPlain = (x : CoreItem) (b : BitRef) → cell_reads (cell_of x) b ≡ item_reads x b

-- a cut of an ordered list of items is ordered, and so is an order of a design's cells without the dropped ones
abbrev pub CutIsOrdered : Type 0
CutIsOrdered = (signals : List Signal) (items : List Item) (keeps : Item → Bool)
    → IsOrdered (map (item_cell signals) items) → IsOrdered (map (item_cell signals) (filter keeps items))

abbrev pub OrderIsCut : Type 0
OrderIsCut = (cells : List (Cell BitRef)) (order : List ℕ) (keeps : ℕ → Bool)
    → IsOrdered (chosen_cells cells order) → IsOrdered (chosen_cells cells (filter keeps order))

-- the cells of a cut are cells of the design
abbrev pub CutIsPart : Type 0
CutIsPart = (design : Design) (boxes : ℕ → Bool) (c : Cell BitRef) → In c (cut_cells design boxes) → In c (cells design)

-- what is valid in a part is valid in the whole
abbrev pub PartIsSound : Type 0
PartIsSound = (E F : List (Cell BitRef)) (held : ℕ → BitRef → Option Bool) (row : Row BitRef)
    → ((c : Cell BitRef) → In c F → In c E) → IsValid F held row → IsValid E held row

-- so what is valid in a cut is valid in the design
abbrev pub CutIsSound : Type 0
CutIsSound = (design : Design) (boxes : ℕ → Bool) (held : ℕ → BitRef → Option Bool) (row : Row BitRef)
    → IsValid (cut_cells design boxes) held row → IsValid (cells design) held row

-- what is left out of a part matters to a query only by driving its bits or those that its slice there reads; else what can be hit in the part can be hit in the whole
abbrev pub UnblockedHits : Type 0
UnblockedHits = (E F S : List (Cell BitRef)) (R : BitRef → Bool) (held : ℕ → BitRef → Option Bool)
    (p : Option (Bitmap BitRef)) (query : Query BitRef)
    → IsChecked E held → ((c : Cell BitRef) → In c F → In c E) → IsSlice F S R → IsAbout R query
    → ((c : Cell BitRef) → In c E → (b : BitRef) → R b ≡ true → c.drives b ≡ true → In c F)
    → CanHit F held p query → CanHit E held p query

-- the least closed part of an ordered design, with the wanted bits and those that its members read, is a slice; and no other part is the least
abbrev pub SliceIsClosed : Type 0
SliceIsClosed = (E S : List (Cell BitRef)) (bits : BitRef → Bool) → IsOrdered E → IsClosedFrom E bits S → IsSlice E S (λ b. bits b || read_by S b)

abbrev pub SliceIsOne : Type 0
SliceIsOne = (E S P : List (Cell BitRef)) (bits : BitRef → Bool) → IsSliceOf E bits S → IsSliceOf E bits P → (c : Cell BitRef) → In c S ↔ In c P

-- whether a row breaks, and whether conditions are met, depends on the bits that they name alone
abbrev pub QuerySees : Type 0
QuerySees = (R : BitRef → Bool) (query : Query BitRef) → IsAbout R query → (σ τ : ℕ → Bitmap BitRef)
    → ((k : ℕ) → k ≤ last_of query → (b : BitRef) → R b ≡ true → σ k b ≡ τ k b) → Hits query σ → Hits query τ

-- two checked designs with the same slice of a query let it be hit both or neither, in windows and in runs, and with the same first values
abbrev pub SliceDecides : Type 0
SliceDecides = (E F S : List (Cell BitRef)) (R : BitRef → Bool) (held : ℕ → BitRef → Option Bool) (p : Option (Bitmap BitRef)) (query : Query BitRef)
    → IsChecked E held → IsChecked F held → IsSlice E S R → IsSlice F S R → IsAbout R query
    → CanHit E held p query ↔ CanHit F held p query

abbrev pub SliceFirst : Type 0
SliceFirst = (E F S : List (Cell BitRef)) (R : BitRef → Bool) (held : ℕ → BitRef → Option Bool) (p : Option (Bitmap BitRef)) (query : Query BitRef)
    (leaves : List (Leaf BitRef)) (values : List Bool)
    → IsChecked E held → IsChecked F held → IsSlice E S R → IsSlice F S R → IsAbout R query
    → ((x : Leaf BitRef) → In x leaves → IsLeafOf R (last_of query) p x)
    → IsFirstHit E held p query leaves values → IsFirstHit F held p query leaves values

-- the slice itself decides: a query can be hit in a checked design where it can in its slice
abbrev pub SliceAlone : Type 0
SliceAlone = (E S : List (Cell BitRef)) (R : BitRef → Bool) (held : ℕ → BitRef → Option Bool) (p : Option (Bitmap BitRef)) (query : Query BitRef)
    → IsChecked E held → IsSlice E S R → IsAbout R query → CanHit E held p query ↔ CanHit S held p query

-- the same by the names of bits, of any type: two checked designs whose slices, held bits, power-up values and rows are the same by name
-- break the row both or neither, and where their leaves are the same by name and in the same order with the same first values
abbrev pub NamesDecide : Type 0 → Type 0
NamesDecide N = (W : List (Cell N)) (named : ℕ → N → Option Bool) (power : Option (Bitmap N)) (row : Row N) (launch : ℕ)
    (one other : Seen BitRef W named power row)
    → CanBreak one.all one.held one.power_up one.own_row launch ↔ CanBreak other.all other.held other.power_up other.own_row launch

abbrev pub NamesFirst : Type 0 → Type 0
NamesFirst N = (W : List (Cell N)) (named : ℕ → N → Option Bool) (power : Option (Bitmap N)) (row : Row N) (launch : ℕ)
    (one other : Seen BitRef W named power row) (leaves leaves' : List (Leaf BitRef)) (values : List Bool)
    → ((x : Leaf BitRef) → In x leaves → IsLeafOf one.read (launch + one.own_row.latency) one.power_up x)
    → ((x : Leaf BitRef) → In x leaves' → IsLeafOf other.read (launch + other.own_row.latency) other.power_up x)
    → map (named_leaf one.to) leaves ≡ map (named_leaf other.to) leaves'
    → IsFirstBreak one.all one.held one.power_up one.own_row launch leaves values
    → IsFirstBreak other.all other.held other.power_up other.own_row launch leaves' values

-- the order of the items does not matter to what can be hit
abbrev pub OrderIsFree : Type 0
OrderIsFree = (E O : List (Cell BitRef)) (held : ℕ → BitRef → Option Bool) (p : Option (Bitmap BitRef)) (query : Query BitRef)
    → ((c : Cell BitRef) → In c E ↔ In c O) → CanHit E held p query ↔ CanHit O held p query

-- a run that breaks a row at a launch has a window that breaks it: a valid row holds at every launch of every run
abbrev pub RunHasWindow : Type 0
RunHasWindow = (E : List (Cell BitRef)) (pins : List (BitRef × Bool)) (reset : Option (BitRef × Bool)) (first n : ℕ) (p : Option (Bitmap BitRef)) (row : Row BitRef)
    → first ≤ n → CanBreak E (held_in_run pins reset first) p row n → CanBreak E (held_in_window pins reset) None row 0

-- a row breaks exactly where one of its bits does
abbrev pub BitsDecide : Type 0
BitsDecide = (E : List (Cell BitRef)) (held : ℕ → BitRef → Option Bool) (p : Option (Bitmap BitRef)) (row : Row BitRef) (launch : ℕ)
    → CanBreak E held p row launch ↔ ((k : ℕ) × ((k < length row.pairs) × CanBreak E held p (row_bit row k) launch))

-- what pins and reset hold are inputs, where they are such bits
abbrev pub HeldAreInputs : Type 0
HeldAreInputs = (E : List (Cell BitRef)) (pins : List (BitRef × Bool)) (reset : Option (BitRef × Bool)) (first : ℕ)
    → ((q : BitRef × Bool) → In q pins → driven E q.0 ≡ false) → ((q : BitRef × Bool) → reset ≡ Some q → driven E q.0 ≡ false)
    → (k : ℕ) (b : BitRef) (v : Bool)
    → (held_in_window pins reset k b ≡ Some v → driven E b ≡ false) × (held_in_run pins reset first k b ≡ Some v → driven E b ≡ false)

-- what a bit needs of its item decides it
abbrev pub NeedsDecide : Type 0
NeedsDecide = (x : CoreItem) (full branch_full : Stmt) → IsGood x → IsProcess x full branch_full → HasNeeds (cell_of x) (item_needs x full branch_full)

-- a launch-free row that some window breaks is broken by a run at the first launch
abbrev pub FreeLaunch : Type 0
FreeLaunch = (ps : List Process) (pins : List (BitRef × Bool)) (reset : Option (BitRef × Bool)) (power_up : Bitmap BitRef) (first : ℕ) (row : Row BitRef)
    → IsChecked (process_cells ps) (held_in_run pins reset first) → AreProcesses ps → IsLaunchFree (process_cells ps) (needs_in ps) row
    → CanBreak (process_cells ps) (held_in_window pins reset) None row 0 → CanBreak (process_cells ps) (held_in_run pins reset first) (Some power_up) row first

-- a row is launch-free where some set of pairs of a cycle and a bit has the row's bits and what its members need, and no register at cycle 0
abbrev pub FreeBySet : Type 0
FreeBySet = (ps : List Process) (row : Row BitRef) (Q : ℕ → BitRef → Bool)
    → IsFreeReach (process_cells ps) (needs_in ps) (λ k b. Q k b ≡ true) → IsReached (λ k b. Q k b ≡ true) row → IsLaunchFree (process_cells ps) (needs_in ps) row

-- each item of a design fits it, and weighs what it carries
abbrev pub ItemsFit : Type 0
ItemsFit = (design : Design) (i : Item) → In i design.items → item_fits (signal_lengths design.signals) (length_at design.signals) (length design.scopes) i ≡ true

abbrev pub ItemsWeigh : Type 0
ItemsWeigh = (design : Design) (i : Item) → In i design.items → carried_weight i ≡ weight_of (signal_lengths design.signals) i

-- what is silent, as the reset branches of a design are, reads no signal
abbrev pub SilentReadsNothing : Type 0
SilentReadsNothing = (s : Stmt) (b : BitRef) → silent_stmt s ≡ true → stmt_reads s b ≡ false

-- a window or run is what its first state and its inputs make of it
abbrev pub TraceIsComputed : Type 0
TraceIsComputed = (E : List (Cell BitRef)) (held : ℕ → BitRef → Option Bool) → IsChecked E held → (last : ℕ) (s σ t τ : ℕ → Bitmap BitRef)
    → IsTrace E held last s σ → IsTrace E held last t τ → ((b : BitRef) → s 0 b ≡ t 0 b)
    → ((k : ℕ) → k ≤ last → (b : BitRef) → driven E b ≡ false → σ k b ≡ τ k b)
    → (k : ℕ) → k ≤ last → (b : BitRef) → σ k b ≡ τ k b

-- and each first state and inputs that agree with what is held make one, with these inputs
abbrev pub TraceExists : Type 0
TraceExists = (E : List (Cell BitRef)) (held : ℕ → BitRef → Option Bool) → IsChecked E held → (last : ℕ) (start : Bitmap BitRef) (i : ℕ → Bitmap BitRef)
    → ((k : ℕ) → k ≤ last → (b : BitRef) (v : Bool) → held k b ≡ Some v → i k b ≡ v)
    → IsTrace E held last (states E start i) (assigned E start i) × ((k : ℕ) (b : BitRef) → driven E b ≡ false → assigned E start i k b ≡ i k b)

-- a checked item is a lawful cell
abbrev pub ItemIsLawful : Type 0
ItemIsLawful = (x : CoreItem) → IsGood x → IsLawful (cell_of x)
