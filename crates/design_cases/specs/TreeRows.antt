-- Trees of expressions and statements with the values worked by hand, and registers under reset.
use Rattle.std.specs.Prelude.{◌≡◌, ℕ, Bool, true, false, List, [], ◌∷◌, Some, pos}
use Rattle.bits_core.specs.Numbers.{bits_of}
use Rattle.design_core.specs.declared.operators.Unary.TheVariants as unary
use Rattle.design_core.specs.declared.operators.Binary.TheVariants as binary
use Rattle.design_core.specs.declared.tree.DExpr.{DExpr}
use Rattle.design_core.specs.declared.tree.DNode.TheVariants as node
use Rattle.design_core.specs.declared.tree.DLeft.TheVariants as lefts
use Rattle.design_core.specs.declared.tree.DBase.TheVariants as base
use Rattle.design_core.specs.declared.tree.DStmt.TheVariants as stmts
use Rattle.design_core.specs.declared.tree.DFunction.{DFunction}
use Rattle.design_core.specs.declared.tree.DMatch.{DMatch}
use Rattle.design_core.specs.Core.{Assignment, constant, write, value}
use Rattle.design_core.specs.Terms.{term, matching}
use Rattle.design_core.specs.Items.{reset_by, cell_of}
use Rattle.design_cases.specs.OperatorRows.{ones}
use Rattle.design_cases.specs.WorkedRows.{of, wire, read}

-- the value of an expression, where each signal has four bits and all of them are 1
abbrev pub worth : DExpr → List Bool
worth e = value (term (λ s. 4) e) ones []

-- a constant of n bits
abbrev pub literal : Bool → ℕ → ℕ → DExpr
literal sign n v = record { length = n; signed = sign; node = node.Const (bits_of n v) }

-- 1001 brought to 6 bits with its sign, 111001, and without
abbrev pub ExtendRows : Type 0
ExtendRows = (worth (record { length = 6; signed = true; node = node.Extend (literal true 4 9) true }) ≡ bits_of 6 57)
    × (worth (record { length = 6; signed = false; node = node.Extend (literal false 4 9) false }) ≡ bits_of 6 9)

-- 15 < 1 where both operands are signed, and where one is not
abbrev pub CompareRows : Type 0
CompareRows = (worth (record { length = 1; signed = false; node = node.Binary binary.Less (literal true 4 15) (literal true 4 1) }) ≡ bits_of 1 1)
    × (worth (record { length = 1; signed = false; node = node.Binary binary.Less (literal true 4 15) (literal false 4 1) }) ≡ bits_of 1 0)

-- 1100 >>> 1 in a signed expression, and in one that is not
abbrev pub FillRows : Type 0
FillRows = (worth (record { length = 4; signed = true; node = node.Binary binary.ShiftRightSigned (literal true 4 12) (literal false 1 1) }) ≡ bits_of 4 14)
    × (worth (record { length = 4; signed = false; node = node.Binary binary.ShiftRightSigned (literal false 4 12) (literal false 1 1) }) ≡ bits_of 4 6)

-- two bits from index 3 on: with a sign the index is -1, so that the lower bit is outside and the upper one is bit 0; without one both are outside of 3 bits
abbrev pub IndexRows : Type 0
IndexRows = (worth (record { length = 2; signed = false; node = node.SelectAt (literal false 3 7) (literal true 2 3) (pos 0) false }) ≡ bits_of 2 2)
    × (worth (record { length = 2; signed = false; node = node.SelectAt (literal false 3 7) (literal false 2 3) (pos 0) false }) ≡ bits_of 2 0)

-- {4'b1010, 2'b01}; two bits of a signal of four 1s from place 3 on
abbrev pub PartRows : Type 0
PartRows = (worth (record { length = 6; signed = false; node = node.Concat (literal false 4 10 ∷ literal false 2 1 ∷ []) }) ≡ bits_of 6 41)
    × (worth (record { length = 2; signed = false; node = node.Select (record { length = 4; signed = false; node = node.Signal 0 }) (pos 3) }) ≡ bits_of 2 1)

-- a function of one input of 2 bits that tells whether some bit of it is 1; the argument 0100 is cut to 00
abbrev pub some_bit : DFunction
some_bit = record {
  length = 1;
  signed = false;
  inputs = record { length = 2; signed = false } ∷ [];
  locals = [];
  body = stmts.Write (lefts.Whole (base.Local 0) 1) (record { length = 1; signed = false; node = node.Unary unary.Or (record { length = 2; signed = false; node = node.Local 1 }) }) true;
}

abbrev pub CallRows : Type 0
CallRows = (worth (record { length = 1; signed = false; node = node.Call some_bit (literal false 4 4 ∷ []) }) ≡ bits_of 1 0)
    × (worth (record { length = 1; signed = false; node = node.Call some_bit (literal false 4 2 ∷ []) }) ≡ bits_of 1 1)

-- the item 3'b1?0 of a casez matches 110 and 100, and not 101; a free bit is 1 in the second list
abbrev pub free_item : DMatch
free_item = record { value = literal false 3 4; free = Some (bits_of 3 2) }

abbrev pub FreeRows : Type 0
FreeRows = (value (matching (λ s. 4) free_item (constant (bits_of 3 6))) ones [] ≡ bits_of 1 1)
    × (value (matching (λ s. 4) free_item (constant (bits_of 3 4))) ones [] ≡ bits_of 1 1)
    × (value (matching (λ s. 4) free_item (constant (bits_of 3 5))) ones [] ≡ bits_of 1 0)

abbrev pub no_bit : Assignment
no_bit b = false

-- q (1) with its reset rst_n (2) at 0, stored as 1: it reads as 0 in the same cycle, and 0 is stored; with the reset released it reads as it is stored, and d (0) is stored
abbrev pub ResetRows : Type 0
ResetRows = ((cell_of (reset_by (of 2) false (write (wire 1) (constant (false ∷ [])) false) (write (wire 1) (read 0) false))).within ones no_bit (of 1) ≡ false)
    × ((cell_of (reset_by (of 2) false (write (wire 1) (constant (false ∷ [])) false) (write (wire 1) (read 0) false))).after ones no_bit (of 1) ≡ false)
    × ((cell_of (reset_by (of 2) false (write (wire 1) (constant (false ∷ [])) false) (write (wire 1) (read 0) false))).within no_bit ones (of 1) ≡ false)
    × ((cell_of (reset_by (of 2) false (write (wire 1) (constant (false ∷ [])) false) (write (wire 1) (read 0) false))).after no_bit ones (of 1) ≡ true)
