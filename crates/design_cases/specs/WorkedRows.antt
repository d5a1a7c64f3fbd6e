-- Small designs, with rows that are valid in them, that some run breaks, and that stay open.
use Rattle.std.specs.Prelude.{◌≡◌, ℕ, Bool, true, false, ◌||◌, List, [], ◌∷◌, map, Option, Some, None, pos}
use Rattle.design_core.specs.declared.place.BitRef.{BitRef}
use Rattle.design_core.specs.declared.operators.Binary.TheVariants as binary
use Rattle.design_core.specs.Core.{bit, signal, Term, Stmt, constant, span, app1, app2, Left, nowhere, both, slice, skip, seq, write, choose}
use Rattle.design_core.specs.declared.items.Item.{Item}
use Rattle.design_core.specs.declared.items.Item.TheVariants as item
use Rattle.design_core.specs.declared.tree.DExpr.{DExpr}
use Rattle.design_core.specs.declared.tree.DNode.TheVariants as node
use Rattle.design_core.specs.declared.tree.DLeft.TheVariants as lefts
use Rattle.design_core.specs.declared.tree.DBase.TheVariants as base
use Rattle.design_core.specs.Parts.{item_of}
use Rattle.design_core.specs.Covers.{Arm, first_arm}
use Rattle.design_core.specs.Operators.{binary_value, one_bit, all_match}
use Rattle.bits_core.specs.Places.{is_set, extended}
use Rattle.design_core.specs.Cells.{Bitmap, In, IsOrdered}
use Rattle.design_core.specs.Items.{CoreItem, assign, comb, clocked, reset_by, cell_of, IsGood}
use Rattle.design_core.specs.Rows.{Row, Kind, proved, refuted, «open», IsKind}
use Rattle.design_core.specs.Leaves.{input, IsFirstBreak}
use Rattle.design_core.specs.Setups.{held_in_window, held_in_run}

-- signal s of one bit, read and written
abbrev pub read : ℕ → Term
read s = span s 1 (pos 0) 1

abbrev pub wire : ℕ → Left
wire s = slice (signal s) 1 (pos 0) 1

abbrev pub of : ℕ → BitRef
of s = bit s 0

-- the row from one bit to another
abbrev pub row : ℕ → ℕ → ℕ → List (BitRef × Bool) → Row BitRef
row source dest latency conditions = record { pairs = (of source, of dest) ∷ []; latency = latency; conditions = conditions }

-- the conjunction of two signals
abbrev pub anded : ℕ → ℕ → Term
anded a b = app2 (binary_value binary.And false) (read a) (read b)

-- an ordered design of good items, in which a row is of a kind: with what is held, the power-up values, the first launch and the depth
pub record Comes (items : List CoreItem) (reset : Option (BitRef × Bool)) (first : ℕ) (power_up : Bitmap BitRef) (r : Row BitRef) (kind : Kind) : Type 0 where
  pub ordered : IsOrdered (map cell_of items)
  pub good : (x : CoreItem) → In x items → IsGood x
  pub is_kind : IsKind (map cell_of items) (held_in_window [] reset) (held_in_run [] reset first) power_up r first 8 kind

abbrev pub no_power : Bitmap BitRef
no_power b = false

-- a (0) to y (1): y = a
abbrev pub through : List CoreItem
through = assign (wire 1) (read 0) ∷ []

abbrev pub ThroughIsProved : Type 0
ThroughIsProved = Comes through None 0 no_power (row 0 1 0 []) proved

-- y = 1'b0
abbrev pub grounded : List CoreItem
grounded = assign (wire 1) (constant (false ∷ [])) ∷ []

abbrev pub GroundedIsRefuted : Type 0
GroundedIsRefuted = Comes grounded None 0 no_power (row 0 1 0 []) (refuted 0)

-- a (0), y (1), s (2): y = s & a
abbrev pub gated : List CoreItem
gated = assign (wire 1) (anded 2 0) ∷ []

abbrev pub GatedByCondition : Type 0
GatedByCondition = Comes gated None 0 no_power (row 0 1 0 ((of 2, true) ∷ [])) proved × Comes gated None 0 no_power (row 0 1 0 []) (refuted 0)

-- d (0), q (1), p (2): p <= d; q <= p, on the clock
abbrev pub piped : List CoreItem
piped = clocked (seq (write (wire 2) (read 0) false) (write (wire 1) (read 2) false)) ∷ []

abbrev pub PipedByTwo : Type 0
PipedByTwo = Comes piped None 0 no_power (row 0 1 2 []) proved × Comes piped None 0 no_power (row 0 1 1 []) (refuted 0)

-- d (0), q (1), en (2): if (en) q <= d, on the clock
abbrev pub load : Stmt
load = choose (read 2) (write (wire 1) (read 0) false) skip

abbrev pub enabled : List CoreItem
enabled = clocked load ∷ []

abbrev pub EnabledByCondition : Type 0
EnabledByCondition = Comes enabled None 0 no_power (row 0 1 1 ((of 2, true) ∷ [])) proved

-- a (0), y (1), g (2) with the power-up value 1 that nothing else drives: y = a & g
abbrev pub kept : List CoreItem
kept = clocked (write (wire 2) (read 2) false) ∷ assign (wire 1) (anded 0 2) ∷ []

abbrev pub g_is_set : Bitmap BitRef
g_is_set b = true

abbrev pub KeptStaysOpen : Type 0
KeptStaysOpen = Comes kept None 0 g_is_set (row 0 1 0 []) «open»

-- a (0), y (1), g (2) with the power-up value 1, clr (3): if (clr) g <= 1'b0 on the clock; y = a & g
abbrev pub clear : Stmt
clear = choose (read 3) (write (wire 2) (constant (false ∷ [])) false) skip

abbrev pub cleared : List CoreItem
cleared = clocked clear ∷ assign (wire 1) (anded 0 2) ∷ []

abbrev pub ClearedAtLaunchOne : Type 0
ClearedAtLaunchOne = Comes cleared None 0 g_is_set (row 0 1 0 []) (refuted 1)

-- b (0), c (1), y (2), a (3): {c, y} = a + b, with two bits by the left side
abbrev pub sum_of : ℕ → ℕ → Term
sum_of a b = app2 (binary_value binary.Add false) (app1 (extended false 2) (read a)) (app1 (extended false 2) (read b))

abbrev pub carried : List CoreItem
carried = assign (both (wire 1) (both (wire 2) nowhere)) (sum_of 3 0) ∷ []

abbrev pub CarriedByCondition : Type 0
CarriedByCondition = Comes carried None 0 no_power (row 0 1 0 ((of 3, true) ∷ [])) proved

-- d (0), q (1), rst_n (2): if (!rst_n) q <= 1'b0; else q <= d, on the clock or the falling edge of rst_n; the reset is 0 in the first two cycles
abbrev pub reset_low : List CoreItem
reset_low = reset_by (of 2) false (write (wire 1) (constant (false ∷ [])) false) (write (wire 1) (read 0) false) ∷ []

abbrev pub ResetIsReleased : Type 0
ResetIsReleased = Comes reset_low (Some (of 2, false)) 2 no_power (row 0 1 1 []) proved × Comes reset_low (Some (of 2, false)) 2 no_power (row 0 1 0 []) (refuted 2)

-- the same assign as a tree, and the item that it is read as
abbrev pub one_of : ℕ → DExpr
one_of s = record { length = 1; signed = false; node = node.Signal s }

abbrev pub longer : DExpr → DExpr
longer e = record { length = 2; signed = false; node = node.Extend e false }

abbrev pub sum_tree : DExpr
sum_tree = record { length = 2; signed = false; node = node.Binary binary.Add (longer (one_of 3)) (longer (one_of 0)) }

abbrev pub carry_tree : Item
carry_tree = item.Assign 0 18 (lefts.Concat (lefts.Whole (base.Signal 1) 1 ∷ lefts.Whole (base.Signal 2) 1 ∷ [])) sum_tree

abbrev pub TreeIsRead : Type 0
TreeIsRead = (size : ℕ → ℕ) → item_of size carry_tree ∷ [] ≡ carried

-- an item of a case whose value is one bit
abbrev pub item_test : Bool → Term
item_test v = app2 (λ a b. one_bit (is_set a || is_set b)) (app2 (λ a b. one_bit (all_match a b [])) (read 3) (constant (v ∷ []))) (constant (false ∷ []))

abbrev pub arm_low : Arm
arm_low = record { test = item_test false; body = write (wire 4) (read 0) true }

abbrev pub arm_high : Arm
arm_high = record { test = item_test true; body = write (wire 4) (read 1) true }

-- d (0), q (1), rst_n (2), s (3), y (4): q as above, and always @* case (s) 0: y = d; 1: y = q; endcase, without default
abbrev pub switched : List CoreItem
switched = reset_by (of 2) false (write (wire 1) (constant (false ∷ [])) false) (write (wire 1) (read 0) false) ∷ comb (first_arm (arm_low ∷ arm_high ∷ [])) ∷ []

abbrev pub SwitchedByCondition : Type 0
SwitchedByCondition = Comes switched (Some (of 2, false)) 2 no_power (row 0 4 0 ((of 3, false) ∷ [])) proved

-- y = 1'b0: of the breaking values of the leaf, a in cycle 0, the first is 1, as it is printed
abbrev pub GroundedFirst : Type 0
GroundedFirst = IsFirstBreak (map cell_of grounded) (held_in_run [] None 0) (Some no_power) (row 0 1 0 []) 0 (input 0 (of 0) ∷ []) (true ∷ [])
