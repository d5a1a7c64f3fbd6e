-- What being formed gives of the writes and the bits of a body.
use Rattle.std.specs.Prelude.{◌≡◌, ℕ, Bool, true, false, not, List, slice_index_or}
use Rattle.design_core.specs.declared.place.BitRef.{BitRef}
use Rattle.design_core.specs.Core.{Stmt, stmt_reads}
use Rattle.design_core.specs.Cells.{Cell}
use Rattle.design_core.specs.Items.{CoreItem, assign, comb, clocked, reset_by}
use Rattle.design_core.specs.Needs.{names_local, writes_local, targets}
use Rattle.design_core.specs.Numbers.{is_bit}

-- a body names no local on its left sides, and its writes are all blocking, or all not
pub record IsOfKind (blocking : Bool) (body : Stmt) : Type 0 where
  pub no_local : writes_local body ≡ false
  pub no_other : (b : BitRef) → targets (not blocking) body b ≡ false

-- a reset branch and a body with nonblocking writes alone, and a branch that reads nothing
pub record IsOfReset (branch body : Stmt) : Type 0 where
  pub branch_kind : IsOfKind false branch
  pub body_kind : IsOfKind false body
  pub silent : (b : BitRef) → stmt_reads branch b ≡ false

-- an item has writes of its own kind: a combinational process blocking ones, a clocked process and its reset branch nonblocking ones
abbrev pub KeepsKind : CoreItem → Type 0
KeepsKind (assign l e) = names_local l ≡ false
KeepsKind (comb body) = IsOfKind true body
KeepsKind (clocked body) = IsOfKind false body
KeepsKind (reset_by r asserted branch body) = IsOfReset branch body

-- the length of a signal, 0 for a number past the last
abbrev pub length_in : List ℕ → ℕ → ℕ
length_in vs s = slice_index_or vs s 0

-- a cell reads and drives bits of the signals alone
pub record IsOverBits (vs : List ℕ) (c : Cell BitRef) : Type 0 where
  pub reads_bits : (b : BitRef) → c.reads b ≡ true → is_bit vs b ≡ true
  pub uses_bits : (b : BitRef) → c.uses b ≡ true → is_bit vs b ≡ true
  pub drives_bits : (b : BitRef) → c.drives b ≡ true → is_bit vs b ≡ true
