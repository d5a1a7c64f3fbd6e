-- The lengths of what operators give, and the lengths that their operands must have (IEEE 1364-2005, 5.4.1).
use Rattle.std.specs.Prelude.{◌≡◌, ℕ, true}
use Rattle.design_core.specs.declared.operators.Unary.{Unary}
use Rattle.design_core.specs.declared.operators.Unary.TheVariants as unary
use Rattle.design_core.specs.declared.operators.Binary.{Binary}
use Rattle.design_core.specs.declared.operators.Binary.TheVariants as binary
use Rattle.design_core.specs.Formed.{binary_fits, unary_fits}

abbrev pub unary_length : Unary → ℕ → ℕ
unary_length unary.Negate a = a
unary_length unary.Invert a = a
unary_length unary.Not a = 1
unary_length unary.And a = 1
unary_length unary.Nand a = 1
unary_length unary.Or a = 1
unary_length unary.Nor a = 1
unary_length unary.Xor a = 1
unary_length unary.Xnor a = 1

abbrev pub binary_length : Binary → ℕ → ℕ
binary_length binary.Add a = a
binary_length binary.Sub a = a
binary_length binary.Mul a = a
binary_length binary.And a = a
binary_length binary.Or a = a
binary_length binary.Xor a = a
binary_length binary.Xnor a = a
binary_length binary.Less a = 1
binary_length binary.LessEqual a = 1
binary_length binary.Greater a = 1
binary_length binary.GreaterEqual a = 1
binary_length binary.Equal a = 1
binary_length binary.NotEqual a = 1
binary_length binary.LogicAnd a = 1
binary_length binary.LogicOr a = 1
binary_length binary.ShiftLeft a = a
binary_length binary.ShiftRight a = a
binary_length binary.ShiftRightSigned a = a

-- arithmetic on at most 128 bits
abbrev pub FitsUnary : Unary → ℕ → Type 0
FitsUnary op a = unary_fits op (unary_length op a) a ≡ true

-- operands of one length where they are joined, at most 128 bits for arithmetic, order and shift amounts
abbrev pub FitsBinary : Binary → ℕ → ℕ → Type 0
FitsBinary op a b = binary_fits op (binary_length op a) a b ≡ true
