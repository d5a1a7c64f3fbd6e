-- Each operator at two lengths, with and without sign where that differs, against values worked by hand from the rules of IEEE 1364-2005, 5.1.
use Rattle.std.specs.Prelude.{◌≡◌, true, false, [], ◌∷◌, pos, negsuc}
use Rattle.bits_core.specs.Numbers.{bits_of}
use Rattle.bits_core.specs.Places.{extended, selected}
use Rattle.design_core.specs.declared.operators.Unary.TheVariants as unary
use Rattle.design_core.specs.declared.operators.Binary.TheVariants as binary
use Rattle.design_core.specs.Core.{Assignment, bit, signal, local, constant, span, own, app2, call, stop, pass, both, slice, slice_at, skip, write, choose, St, value, exec}
use Rattle.design_core.specs.Operators.{unary_value, binary_value, by_sign, chosen, repeated, lowest, all_match}
use Rattle.design_core.specs.Terms.{chained, select_of}

-- one operand: -3 and -1 in two's complement, all bits turned, 0 and 16 as truth values, and the reductions of 15, 254, 0, 128, 7 and 129
abbrev pub UnaryRows : Type 0
UnaryRows =
    (unary_value unary.Negate (bits_of 4 3) ≡ bits_of 4 13) × (unary_value unary.Negate (bits_of 8 1) ≡ bits_of 8 255)
    × (unary_value unary.Invert (bits_of 4 5) ≡ bits_of 4 10) × (unary_value unary.Invert (bits_of 8 15) ≡ bits_of 8 240)
    × (unary_value unary.Not (bits_of 4 0) ≡ bits_of 1 1) × (unary_value unary.Not (bits_of 8 16) ≡ bits_of 1 0)
    × (unary_value unary.And (bits_of 4 15) ≡ bits_of 1 1) × (unary_value unary.And (bits_of 8 254) ≡ bits_of 1 0)
    × (unary_value unary.Nand (bits_of 4 15) ≡ bits_of 1 0) × (unary_value unary.Nand (bits_of 8 254) ≡ bits_of 1 1)
    × (unary_value unary.Or (bits_of 4 0) ≡ bits_of 1 0) × (unary_value unary.Or (bits_of 8 128) ≡ bits_of 1 1)
    × (unary_value unary.Nor (bits_of 4 0) ≡ bits_of 1 1) × (unary_value unary.Nor (bits_of 8 128) ≡ bits_of 1 0)
    × (unary_value unary.Xor (bits_of 4 7) ≡ bits_of 1 1) × (unary_value unary.Xor (bits_of 8 129) ≡ bits_of 1 0)
    × (unary_value unary.Xnor (bits_of 4 7) ≡ bits_of 1 0) × (unary_value unary.Xnor (bits_of 8 129) ≡ bits_of 1 1)

-- 11 + 7 is 18, 200 + 100 is 300, 3 - 5 is -2, 10 - 20 is -10, 5 * 7 is 35, 20 * 30 is 600, each modulo 16 or 256; with a sign the bits are the same
abbrev pub ArithmeticRows : Type 0
ArithmeticRows =
    (binary_value binary.Add false (bits_of 4 11) (bits_of 4 7) ≡ bits_of 4 2) × (binary_value binary.Add true (bits_of 8 200) (bits_of 8 100) ≡ bits_of 8 44)
    × (binary_value binary.Sub false (bits_of 4 3) (bits_of 4 5) ≡ bits_of 4 14) × (binary_value binary.Sub true (bits_of 8 10) (bits_of 8 20) ≡ bits_of 8 246)
    × (binary_value binary.Mul false (bits_of 4 5) (bits_of 4 7) ≡ bits_of 4 3) × (binary_value binary.Mul true (bits_of 8 20) (bits_of 8 30) ≡ bits_of 8 88)

-- 1100 with 1010, and 11110000 with 00111100
abbrev pub BitwiseRows : Type 0
BitwiseRows =
    (binary_value binary.And false (bits_of 4 12) (bits_of 4 10) ≡ bits_of 4 8) × (binary_value binary.And false (bits_of 8 240) (bits_of 8 60) ≡ bits_of 8 48)
    × (binary_value binary.Or false (bits_of 4 12) (bits_of 4 10) ≡ bits_of 4 14) × (binary_value binary.Or false (bits_of 8 240) (bits_of 8 60) ≡ bits_of 8 252)
    × (binary_value binary.Xor false (bits_of 4 12) (bits_of 4 10) ≡ bits_of 4 6) × (binary_value binary.Xor false (bits_of 8 240) (bits_of 8 60) ≡ bits_of 8 204)
    × (binary_value binary.Xnor false (bits_of 4 12) (bits_of 4 10) ≡ bits_of 4 9) × (binary_value binary.Xnor false (bits_of 8 240) (bits_of 8 60) ≡ bits_of 8 51)

-- 15 is -1 with 4 bits and a sign, 200 is -56 and 128 is -128 with 8
abbrev pub LessRows : Type 0
LessRows =
    (binary_value binary.Less false (bits_of 4 15) (bits_of 4 1) ≡ bits_of 1 0) × (binary_value binary.Less true (bits_of 4 15) (bits_of 4 1) ≡ bits_of 1 1)
    × (binary_value binary.Less false (bits_of 8 200) (bits_of 8 100) ≡ bits_of 1 0) × (binary_value binary.Less true (bits_of 8 200) (bits_of 8 100) ≡ bits_of 1 1)
    × (binary_value binary.LessEqual false (bits_of 4 5) (bits_of 4 5) ≡ bits_of 1 1) × (binary_value binary.LessEqual true (bits_of 4 5) (bits_of 4 5) ≡ bits_of 1 1)
    × (binary_value binary.LessEqual false (bits_of 8 128) (bits_of 8 127) ≡ bits_of 1 0) × (binary_value binary.LessEqual true (bits_of 8 128) (bits_of 8 127) ≡ bits_of 1 1)
    × (binary_value binary.Greater false (bits_of 4 15) (bits_of 4 1) ≡ bits_of 1 1) × (binary_value binary.Greater true (bits_of 4 15) (bits_of 4 1) ≡ bits_of 1 0)
    × (binary_value binary.Greater false (bits_of 8 128) (bits_of 8 127) ≡ bits_of 1 1) × (binary_value binary.Greater true (bits_of 8 128) (bits_of 8 127) ≡ bits_of 1 0)
    × (binary_value binary.GreaterEqual false (bits_of 4 8) (bits_of 4 7) ≡ bits_of 1 1) × (binary_value binary.GreaterEqual true (bits_of 4 8) (bits_of 4 7) ≡ bits_of 1 0)
    × (binary_value binary.GreaterEqual false (bits_of 8 255) (bits_of 8 0) ≡ bits_of 1 1) × (binary_value binary.GreaterEqual true (bits_of 8 255) (bits_of 8 0) ≡ bits_of 1 0)

-- a comparison is signed where both operands are
abbrev pub SignRows : Type 0
SignRows = (by_sign binary.Less false true true ≡ true) × (by_sign binary.Less true true false ≡ false) × (by_sign binary.ShiftRightSigned true false false ≡ true)

abbrev pub EqualRows : Type 0
EqualRows =
    (binary_value binary.Equal false (bits_of 4 9) (bits_of 4 9) ≡ bits_of 1 1) × (binary_value binary.Equal false (bits_of 8 9) (bits_of 8 137) ≡ bits_of 1 0)
    × (binary_value binary.NotEqual false (bits_of 4 9) (bits_of 4 9) ≡ bits_of 1 0) × (binary_value binary.NotEqual false (bits_of 8 9) (bits_of 8 137) ≡ bits_of 1 1)
    × (binary_value binary.LogicAnd false (bits_of 4 2) (bits_of 8 128) ≡ bits_of 1 1) × (binary_value binary.LogicAnd false (bits_of 8 2) (bits_of 4 0) ≡ bits_of 1 0)
    × (binary_value binary.LogicOr false (bits_of 4 0) (bits_of 8 0) ≡ bits_of 1 0) × (binary_value binary.LogicOr false (bits_of 8 64) (bits_of 4 0) ≡ bits_of 1 1)

-- 1011 up by 1; an amount of 15, which would be -1 with a sign, moves all out; 1100 down by 2; 11001000 down by 3, with the sign 11111001; past the length all 0, or all sign
abbrev pub ShiftRows : Type 0
ShiftRows =
    (binary_value binary.ShiftLeft false (bits_of 4 11) (bits_of 2 1) ≡ bits_of 4 6) × (binary_value binary.ShiftLeft true (bits_of 8 1) (bits_of 4 15) ≡ bits_of 8 0)
    × (binary_value binary.ShiftRight false (bits_of 4 12) (bits_of 2 2) ≡ bits_of 4 3) × (binary_value binary.ShiftRight true (bits_of 8 200) (bits_of 3 3) ≡ bits_of 8 25)
    × (binary_value binary.ShiftRightSigned false (bits_of 4 12) (bits_of 1 1) ≡ bits_of 4 6) × (binary_value binary.ShiftRightSigned true (bits_of 4 12) (bits_of 1 1) ≡ bits_of 4 14)
    × (binary_value binary.ShiftRightSigned false (bits_of 8 200) (bits_of 3 3) ≡ bits_of 8 25) × (binary_value binary.ShiftRightSigned true (bits_of 8 200) (bits_of 3 3) ≡ bits_of 8 249)
    × (binary_value binary.ShiftRightSigned true (bits_of 8 200) (bits_of 4 9) ≡ bits_of 8 255) × (binary_value binary.ShiftRightSigned false (bits_of 8 200) (bits_of 4 9) ≡ bits_of 8 0)

-- the choice by any bit that is 1; three times 10, twice 1001; {4'b1010, 2'b01}; 1001 brought to 8 bits without and with the sign, 0101 with it
abbrev pub JoinRows : Type 0
JoinRows =
    (chosen (bits_of 2 2) (bits_of 4 3) (bits_of 4 5) ≡ bits_of 4 3) × (chosen (bits_of 2 0) (bits_of 8 3) (bits_of 8 5) ≡ bits_of 8 5)
    × (repeated 3 (bits_of 2 2) ≡ bits_of 6 42) × (repeated 2 (bits_of 4 9) ≡ bits_of 8 153)
    × (value (chained (constant (bits_of 4 10) ∷ constant (bits_of 2 1) ∷ [])) (λ b. false) [] ≡ bits_of 6 41)
    × (extended false 8 (bits_of 4 9) ≡ bits_of 8 9) × (extended true 8 (bits_of 4 9) ≡ bits_of 8 249) × (extended true 6 (bits_of 4 5) ≡ bits_of 6 5)

-- an assignment in which each bit of each signal is 1, and the state that begins with it
abbrev pub ones : Assignment
ones b = true

abbrev pub begun : St
begun = record { now = ones; later = ones; locals = bits_of 2 3 ∷ [] }

-- bits 2 and 1 of 1100; past the end and before the beginning of a vector of 1s there are 0s; an index of 3 is past 3 bits, and with a sign of 2 bits it is -1;
-- counted down from 3, index 1 is place 2
abbrev pub SelectRows : Type 0
SelectRows =
    (selected (pos 1) 2 (bits_of 4 12) ≡ bits_of 2 2)
    × (value (span 0 2 (pos 1) 2) ones [] ≡ bits_of 2 1) × (value (span 0 2 (negsuc 0) 2) ones [] ≡ bits_of 2 2)
    × (value (select_of (pos 3) 2 (span 0 4 (pos 0) 4)) ones [] ≡ bits_of 2 1)
    × (selected (lowest (pos 0) false false (bits_of 2 3)) 1 (bits_of 3 7) ≡ bits_of 1 0) × (selected (lowest (pos 0) false true (bits_of 2 3)) 2 (bits_of 3 7) ≡ bits_of 2 2)
    × (selected (lowest (pos 3) true false (bits_of 2 1)) 1 (bits_of 4 4) ≡ bits_of 1 1)

-- items of a case: equal bits, and free bits that match both values
abbrev pub MatchRows : Type 0
MatchRows =
    (all_match (bits_of 3 5) (bits_of 3 5) [] ≡ true) × (all_match (bits_of 3 5) (bits_of 3 4) [] ≡ false)
    × (all_match (bits_of 3 5) (bits_of 3 4) (bits_of 3 1) ≡ true) × (all_match (bits_of 3 5) (bits_of 3 0) (bits_of 3 1) ≡ false)

-- writes: the right part of a concatenation counts last, {x[0], x[0]} = 2'b10 leaves 0; a write outside has no effect; a nonblocking write is not seen at once, and a blocking one is;
-- a write at a variable place; a call copies its arguments in, cut to the inputs' lengths, starts its result and locals at 0, and its writes leave the signals alone
abbrev pub WriteRows : Type 0
WriteRows =
    ((exec (write (both (slice (signal 3) 4 (pos 0) 1) (slice (signal 3) 4 (pos 0) 1)) (constant (bits_of 2 2)) true) begun).now (bit 3 0) ≡ false)
    × ((exec (write (slice (signal 3) 4 (pos 4) 1) (constant (bits_of 1 0)) true) begun).now (bit 3 4) ≡ true)
    × ((exec (write (slice (signal 3) 4 (pos 0) 1) (constant (bits_of 1 0)) false) begun).now (bit 3 0) ≡ true)
    × ((exec (write (slice (signal 3) 4 (pos 0) 1) (constant (bits_of 1 0)) false) begun).later (bit 3 0) ≡ false)
    × ((exec (write (slice (signal 3) 4 (pos 0) 1) (constant (bits_of 1 0)) true) begun).now (bit 3 0) ≡ false)
    × ((exec (write (slice_at (signal 3) 4 (lowest (pos 0) false false) (constant (bits_of 2 2)) 1) (constant (bits_of 1 0)) true) begun).now (bit 3 2) ≡ false)
    × ((exec (write (slice (local 0) 65536 (pos 5) 1) (constant (bits_of 1 0)) true) begun).locals ≡ bits_of 2 3 ∷ [])
    × (value (call (pass (constant (bits_of 4 13)) (pass (constant (bits_of 2 3)) stop)) (write (slice (local 0) 2 (pos 0) 2) (app2 (binary_value binary.And false) (own 1) (own 2)) true) 2 (2 ∷ 2 ∷ []) []) ones [] ≡ bits_of 2 1)
    × (value (call stop skip 3 [] []) ones [] ≡ bits_of 3 0)
    × ((exec (choose (constant (bits_of 2 2)) (write (slice (signal 3) 4 (pos 0) 1) (constant (bits_of 1 0)) true) skip) begun).now (bit 3 0) ≡ false)
