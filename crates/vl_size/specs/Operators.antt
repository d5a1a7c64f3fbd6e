-- The operator that a word is before an operand, and between two.
use Rattle.std.specs.Prelude.{ℕ, List, codes, if◌then◌else◌}
use Rattle.std.specs.Str.{bytes_eq}
use Rattle.vl_tree.specs.declared.words.Word.{Word}
use Rattle.vl_tree.specs.declared.words.Word.TheVariants as word
use Rattle.vl_size.specs.declared.operators.UnaryOperator.{UnaryOperator}
use Rattle.vl_size.specs.declared.operators.UnaryOperator.TheVariants as u
use Rattle.vl_size.specs.declared.operators.BinaryOperator.{BinaryOperator}
use Rattle.vl_size.specs.declared.operators.BinaryOperator.TheVariants as b
use Rattle.vl_size.specs.declared.operators.SystemFunction.{SystemFunction}
use Rattle.vl_size.specs.declared.operators.SystemFunction.TheVariants as s

abbrev pub unary_operator : Word → UnaryOperator
unary_operator word.Minus = u.Minus
unary_operator word.Tilde = u.Invert
unary_operator word.Bang = u.Not
unary_operator word.Ampersand = u.And
unary_operator word.TildeAmpersand = u.Nand
unary_operator word.Bar = u.Or
unary_operator word.TildeBar = u.Nor
unary_operator word.Caret = u.Xor
unary_operator word.TildeCaret = u.Xnor
unary_operator word.CaretTilde = u.Xnor
unary_operator _ = u.Plus

abbrev pub binary_operator : Word → BinaryOperator
binary_operator word.Minus = b.Subtract
binary_operator word.Star = b.Multiply
binary_operator word.Slash = b.Divide
binary_operator word.Percent = b.Remainder
binary_operator word.StarStar = b.Power
binary_operator word.Ampersand = b.And
binary_operator word.Bar = b.Or
binary_operator word.Caret = b.Xor
binary_operator word.CaretTilde = b.Xnor
binary_operator word.TildeCaret = b.Xnor
binary_operator word.Less = b.Less
binary_operator word.LessEqual = b.LessEqual
binary_operator word.Greater = b.Greater
binary_operator word.GreaterEqual = b.GreaterEqual
binary_operator word.EqualEqual = b.Equal
binary_operator word.NotEqual = b.NotEqual
binary_operator word.AmpersandAmpersand = b.LogicAnd
binary_operator word.BarBar = b.LogicOr
binary_operator word.ShiftLeft = b.ShiftLeft
binary_operator word.ShiftRight = b.ShiftRight
binary_operator word.ShiftLeftSigned = b.ShiftLeftSigned
binary_operator word.ShiftRightSigned = b.ShiftRightSigned
binary_operator _ = b.Add

abbrev pub system_function : List ℕ → SystemFunction
system_function text = if bytes_eq text (codes "$signed") then s.Signed else (if bytes_eq text (codes "$unsigned") then s.Unsigned else s.CeilingLog)
