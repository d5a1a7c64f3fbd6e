-- What a word is to the rules of an expression.
use Rattle.std.specs.Prelude.{ℕ, Bool, true, false}
use Rattle.vl_tree.specs.declared.words.Word.{Word}
use Rattle.vl_tree.specs.declared.words.Word.TheVariants as word
use Rattle.vl_grammar.specs.declared.roles.Role.{Role}
use Rattle.vl_grammar.specs.declared.roles.Role.TheVariants as role

unfoldable pub role_of : Word → Role
role_of word.Number = role.Number
role_of word.FreeNumber = role.Number
role_of word.Name = role.Name
role_of word.System = role.System
role_of word.LeftParen = role.LeftParen
role_of word.LeftBracket = role.LeftBracket
role_of word.RightBracket = role.RightBracket
role_of word.LeftBrace = role.LeftBrace
role_of word.Colon = role.Colon
role_of word.PlusColon = role.PlusColon
role_of word.MinusColon = role.MinusColon
role_of word.Question = role.Question
role_of _ = role.Other

-- how tightly a word binds between two operands, and 0 for one that does not
unfoldable pub binds : Word → ℕ
binds word.BarBar = 1
binds word.AmpersandAmpersand = 2
binds word.Bar = 3
binds word.Caret = 4
binds word.CaretTilde = 4
binds word.TildeCaret = 4
binds word.Ampersand = 5
binds word.EqualEqual = 6
binds word.NotEqual = 6
binds word.Less = 7
binds word.LessEqual = 7
binds word.Greater = 7
binds word.GreaterEqual = 7
binds word.ShiftLeft = 8
binds word.ShiftRight = 8
binds word.ShiftLeftSigned = 8
binds word.ShiftRightSigned = 8
binds word.Plus = 9
binds word.Minus = 9
binds word.Star = 10
binds word.Slash = 10
binds word.Percent = 10
binds word.StarStar = 11
binds _ = 0

-- an operator before one operand
unfoldable pub is_unary : Word → Bool
is_unary word.Plus = true
is_unary word.Minus = true
is_unary word.Bang = true
is_unary word.Tilde = true
is_unary word.Ampersand = true
is_unary word.TildeAmpersand = true
is_unary word.Bar = true
is_unary word.TildeBar = true
is_unary word.Caret = true
is_unary word.TildeCaret = true
is_unary word.CaretTilde = true
is_unary _ = false
