-- A design with a product, a variable select, a function, a case and a register under an asynchronous reset: it is formed, with its weights worked by hand. And the same with one thing wrong.
use Rattle.std.specs.Prelude.{◌≡◌, ℕ, suc, true, false, List, [], ◌∷◌, codes, None, Some, pos}
use Rattle.bits_core.specs.Numbers.{bits_of}
use Rattle.design_core.specs.declared.operators.Unary.TheVariants as unary
use Rattle.design_core.specs.declared.operators.Binary.TheVariants as binary
use Rattle.design_core.specs.declared.tree.DBase.TheVariants as base
use Rattle.design_core.specs.declared.tree.DExpr.{DExpr}
use Rattle.design_core.specs.declared.tree.DNode.TheVariants as node
use Rattle.design_core.specs.declared.tree.DLeft.{DLeft}
use Rattle.design_core.specs.declared.tree.DLeft.TheVariants as lefts
use Rattle.design_core.specs.declared.tree.DStmt.{DStmt}
use Rattle.design_core.specs.declared.tree.DStmt.TheVariants as stmts
use Rattle.design_core.specs.declared.tree.DArm.{DArm, roll-DArm}
use Rattle.design_core.specs.declared.tree.DMatch.{DMatch}
use Rattle.design_core.specs.declared.tree.DFunction.{DFunction}
use Rattle.design_core.specs.declared.items.Item.{Item}
use Rattle.design_core.specs.declared.items.Item.TheVariants as item
use Rattle.design_core.specs.declared.items.DReset.{DReset}
use Rattle.design_core.specs.declared.items.PowerUp.{PowerUp}
use Rattle.design_core.specs.declared.signals.Scope.{Scope}
use Rattle.design_core.specs.declared.signals.Signal.{Signal}
use Rattle.design_core.specs.Core.{bit}
use Rattle.design_core.specs.Wellformed.{dotted, is_design, total_weight}

abbrev pub root : Scope
root = record { parent = None; name = codes "m"; path = codes "m"; «module» = codes "m" }

-- a signal of one bit in the root, and one of bits n to 0
abbrev pub wire_named : List ℕ → Signal
wire_named name = record { scope = 0; name = name; path = dotted (codes "m") name; word = None; length = 1; signed = false; ranged = false; high = pos 0; low = pos 0 }

abbrev pub vector_named : ℕ → List ℕ → Signal
vector_named n name = record { scope = 0; name = name; path = dotted (codes "m") name; word = None; length = suc n; signed = false; ranged = true; high = pos n; low = pos 0 }

abbrev pub signals : List Signal
signals = wire_named (codes "rst_n") ∷ vector_named 3 (codes "d") ∷ vector_named 1 (codes "i") ∷ vector_named 3 (codes "q") ∷ vector_named 3 (codes "y")
    ∷ wire_named (codes "z") ∷ vector_named 3 (codes "w") ∷ vector_named 3 (codes "r") ∷ []

abbrev pub lengths : List ℕ
lengths = 1 ∷ 4 ∷ 2 ∷ 4 ∷ 4 ∷ 1 ∷ 4 ∷ 4 ∷ []

-- a whole signal, read and written; a local, and a constant
abbrev pub seen : ℕ → ℕ → DExpr
seen s n = record { length = n; signed = false; node = node.Signal s }

abbrev pub local : ℕ → ℕ → DExpr
local k n = record { length = n; signed = false; node = node.Local k }

abbrev pub literal : ℕ → ℕ → DExpr
literal n v = record { length = n; signed = false; node = node.Const (bits_of n v) }

abbrev pub whole : ℕ → ℕ → DLeft
whole s n = lefts.Whole (base.Signal s) n

-- assign y = d * q: 4 for y, 8 * 4 * 4 for the product
abbrev pub product : DExpr
product = record { length = 4; signed = false; node = node.Binary binary.Mul (seen 1 4) (seen 3 4) }

abbrev pub product_of_weight : ℕ → Item
product_of_weight w = item.Assign 0 w (whole 4 4) product

-- assign z = d[i]: 1 for z, 17 * 4 and 2 for a select at 2 bits in 4
abbrev pub picked : DExpr
picked = record { length = 1; signed = false; node = node.SelectAt (seen 1 4) (seen 2 2) (pos 0) false }

abbrev pub select_item : Item
select_item = item.Assign 0 71 (whole 5 1) picked

-- function [3:0] plus_one(input [3:0] x); plus_one = x + 1; endfunction: 4 for the result, 8 * 4 for the sum
abbrev pub more : DExpr
more = record { length = 4; signed = false; node = node.Binary binary.Add (local 1 4) (literal 4 1) }

abbrev pub plus_body : DStmt
plus_body = stmts.Write (lefts.Whole (base.Local 0) 4) more true

abbrev pub plus_one : DFunction
plus_one = record { length = 4; signed = false; inputs = record { length = 4; signed = false } ∷ []; locals = []; body = plus_body }

-- assign w = plus_one(d): 4 for w, 36 for the function
abbrev pub called : DExpr
called = record { length = 4; signed = false; node = node.Call plus_one (seen 1 4 ∷ []) }

abbrev pub call_item : Item
call_item = item.Assign 0 40 (whole 6 4) called

-- always @* case (i) 0: r = d; 1, 2: r = q; default: r = 0; endcase: 2 bits against 3 items, and 4 for each of 3 writes
abbrev pub write_r : DExpr → DStmt
write_r e = stmts.Write (whole 7 4) e true

abbrev pub match_of : ℕ → DMatch
match_of v = record { value = literal 2 v; free = None }

abbrev pub first_arm : DArm
first_arm = roll-DArm (record { matches = match_of 0 ∷ []; body = write_r (seen 1 4) })

abbrev pub second_arm : DArm
second_arm = roll-DArm (record { matches = match_of 1 ∷ match_of 2 ∷ []; body = write_r (seen 3 4) })

abbrev pub chosen : DStmt
chosen = stmts.Case (seen 2 2) (first_arm ∷ second_arm ∷ []) (Some (write_r (literal 4 0)))

abbrev pub case_item : Item
case_item = item.Comb 0 18 chosen

-- always @(posedge clk or negedge rst_n) if (!rst_n) q <= 0; else q <= d: 1 for the test, 1 for the choice, 4 for each of 2 writes
abbrev pub write_q : DExpr → DStmt
write_q e = stmts.Write (whole 3 4) e false

abbrev pub inverted : DExpr
inverted = record { length = 1; signed = false; node = node.Unary unary.Not (seen 0 1) }

abbrev pub reset_by_test : DExpr → DReset
reset_by_test e = record { bit = bit 0 0; asserted = false; test = e; branch = write_q (literal 4 0) }

abbrev pub register : ℕ → DExpr → Item
register w e = item.Clocked 0 w (Some (reset_by_test e)) (write_q (seen 1 4))

abbrev pub others : List Item
others = select_item ∷ call_item ∷ case_item ∷ []

abbrev pub items : List Item
items = product_of_weight 132 ∷ register 10 inverted ∷ others

-- the power-up value of a bit of q
abbrev pub zero_at : ℕ → PowerUp
zero_at k = record { bit = bit 3 k; value = false }

abbrev pub power_up : List PowerUp
power_up = zero_at 0 ∷ zero_at 1 ∷ zero_at 2 ∷ zero_at 3 ∷ []

-- the design is formed, and weighs 24 for its bits and 271 for its items
abbrev pub DesignIsFormed : Type 0
DesignIsFormed = is_design (root ∷ []) signals items power_up ≡ true

abbrev pub DesignWeighs : Type 0
DesignWeighs = total_weight signals items ≡ 295

-- not with a product that carries 131
abbrev pub WrongWeight : Type 0
WrongWeight = is_design (root ∷ []) signals (product_of_weight 131 ∷ register 10 inverted ∷ others) power_up ≡ false

-- nor where the test of the reset is true where the reset does not hold
abbrev pub WrongTest : Type 0
WrongTest = is_design (root ∷ []) signals (product_of_weight 132 ∷ register 9 (seen 0 1) ∷ others) power_up ≡ false

-- nor where a register bit has no value at power-up
abbrev pub NoPowerUp : Type 0
NoPowerUp = is_design (root ∷ []) signals items (zero_at 0 ∷ zero_at 1 ∷ zero_at 2 ∷ []) ≡ false
