-- Items over core terms, and each as a cell.
use Rattle.std.specs.Prelude.{◌≡◌, ℕ, Bool, true, false, not, ◌&&◌, ◌||◌, if◌then◌else◌, []}
use Rattle.design_core.specs.declared.place.BitRef.{BitRef}
use Rattle.design_core.specs.Core.{Assignment, same_bit, Term, Left, Stmt, write, St, exec, stmt_reads, drives, known, Within, ReadsKnown}
use Rattle.design_core.specs.Covers.{Completes}
use Rattle.design_core.specs.Renamed.{moved, renamed, renamed_left, renamed_stmt}
use Rattle.design_core.specs.Cells.{Cell}

-- an assign; a combinational process; a clocked process; a clocked process with the bit of its reset, the value with which that holds, and its reset branch
pub data CoreItem : Type 0 where
  assign : Left → Term → CoreItem
  comb : Stmt → CoreItem
  clocked : Stmt → CoreItem
  reset_by : BitRef → Bool → Stmt → Stmt → CoreItem

-- the state in which a body begins: the assignment, and in what is to be stored the bits stored now
abbrev pub start : Assignment → Assignment → St
start s σ = record { now = σ; later = s; locals = [] }

-- the reset bit has its asserted value
abbrev pub reset_holds : BitRef → Bool → Assignment → Bool
reset_holds r true σ = σ r
reset_holds r false σ = not (σ r)

-- an assign or a combinational process gives what its body leaves (6.1, 9.9.2); a register reads as it is stored, and while its reset holds as the reset branch leaves it;
-- what is stored after the cycle is what the body, or while the reset holds its branch, leaves to be stored
abbrev pub cell_of : CoreItem → Cell BitRef
cell_of (assign l e) = record {
  drives = drives (write l e true);
  clocked = false;
  reads = stmt_reads (write l e true);
  uses = λ b. false;
  within = λ s σ. (exec (write l e true) (start s σ)).now;
  after = λ s σ. s;
}
cell_of (comb body) = record {
  drives = drives body;
  clocked = false;
  reads = λ b. stmt_reads body b && not (drives body b);
  uses = λ b. false;
  within = λ s σ. (exec body (start s σ)).now;
  after = λ s σ. s;
}
cell_of (clocked body) = record {
  drives = drives body;
  clocked = true;
  reads = λ b. false;
  uses = stmt_reads body;
  within = λ s σ. s;
  after = λ s σ. (exec body (start s σ)).later;
}
cell_of (reset_by r asserted branch body) = record {
  drives = λ b. drives branch b || drives body b;
  clocked = true;
  reads = λ b. same_bit b r;
  uses = λ b. same_bit b r || stmt_reads body b;
  within = λ s σ b. if reset_holds r asserted σ then (exec branch (start s σ)).later b else s b;
  after = λ s σ b. if reset_holds r asserted σ then (exec branch (start s σ)).later b else (exec body (start s σ)).later b;
}

-- what an item reads: the bits of its right sides, tests and indices that it does not drive, of an assign all of them, and the reset bit in any case
abbrev pub item_reads : CoreItem → BitRef → Bool
item_reads (assign l e) b = stmt_reads (write l e true) b
item_reads (comb body) b = stmt_reads body b && not (drives body b)
item_reads (clocked body) b = stmt_reads body b && not (drives body b)
item_reads (reset_by r asserted branch body) b = same_bit b r || (stmt_reads body b && not (drives branch b || drives body b))

-- a body writes on every path each bit that it drives, and reads none of them before; cases that always find their item may take the last arm untested
pub record IsSound (body : Stmt) (A : BitRef → Bool) : Type 0 where
  pub full : Stmt
  pub completes : Completes body full
  pub reads_known : ReadsKnown full A
  pub all_written : Within (drives body) (known full A)

-- what is checked of an item
abbrev pub IsGood : CoreItem → Type 0
IsGood (assign l e) = Within (drives (write l e true)) (known (write l e true) (stmt_reads (write l e true)))
IsGood (comb body) = IsSound body (λ b. stmt_reads body b && not (drives body b))
IsGood (clocked body) = Unit {0}
IsGood (reset_by r asserted branch body) = (b : BitRef) → stmt_reads branch b ≡ false

-- an item under other numbers of signals
abbrev pub renamed_item : (ℕ → ℕ) → CoreItem → CoreItem
renamed_item ρ (assign l e) = assign (renamed_left ρ l) (renamed ρ e)
renamed_item ρ (comb body) = comb (renamed_stmt ρ body)
renamed_item ρ (clocked body) = clocked (renamed_stmt ρ body)
renamed_item ρ (reset_by r asserted branch body) = reset_by (moved ρ r) asserted (renamed_stmt ρ branch) (renamed_stmt ρ body)
