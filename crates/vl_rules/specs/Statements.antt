-- Statements.
use Rattle.std.specs.Prelude.{Bool, true, false, nat_le, List, count_by, Option, Some, None}
use Rattle.vl_tree.specs.declared.tokens.Token.{Token}
use Rattle.vl_tree.specs.declared.words.Word.{Word}
use Rattle.vl_tree.specs.declared.words.Word.TheVariants as word
use Rattle.vl_tree.specs.declared.expressions.Expr.{Expr}
use Rattle.vl_tree.specs.declared.expressions.Expr.TheVariants as e
use Rattle.vl_tree.specs.declared.statements.CaseWord.{CaseWord}
use Rattle.vl_tree.specs.declared.statements.CaseWord.TheVariants as kind
use Rattle.vl_tree.specs.declared.statements.AssignWord.{AssignWord}
use Rattle.vl_tree.specs.declared.statements.AssignWord.TheVariants as sign
use Rattle.vl_tree.specs.declared.statements.Stmt.{Stmt}
use Rattle.vl_tree.specs.declared.statements.Stmt.TheVariants as s
use Rattle.vl_tree.specs.declared.statements.Citem.{Citem}
use Rattle.vl_tree.specs.declared.statements.Citem.TheVariants as a
use Rattle.vl_tree.specs.declared.modules.LoopHead.{LoopHead}
use Rattle.vl_rules.specs.Form.{Form, unless, fixed, value, made, many, one_and, such, rule, stmt}
use Rattle.vl_rules.specs.Shapes.{◌∣◌, ◌▸◌, ◌◂◌, ◌⊗◌, maybe, means, list, in_parens, ended, name, after_equals}
use Rattle.vl_rules.specs.Events.{left_side}

unfoldable pub block_name : Form (Option Token)
block_name = maybe (fixed word.Colon ▸ name)

unfoldable pub loop_head : Form LoopHead
loop_head = made (λ x. record { start_name = x.0.0.0.0; start = x.0.0.0.1; test = x.0.0.1; step_name = x.0.1; step = x.1 })
    (in_parens (name ⊗ after_equals ◂ fixed word.Semicolon ⊗ value ◂ fixed word.Semicolon ⊗ name ⊗ after_equals))

unfoldable pub sequence : Form Stmt
sequence = made (λ x. s.Begin x.0 x.1) (fixed word.Begin ▸ block_name ⊗ many (rule stmt) ◂ fixed word.End)

-- an `else` goes to the nearest `if`: none follows a statement that lacks one
unfoldable pub otherwise : Form (Option Stmt)
otherwise = made Some (fixed word.Else ▸ rule stmt) ∣ unless word.Else None

unfoldable pub choice : Form Stmt
choice = made (λ x. s.If x.0.0 x.0.1 x.1) (fixed word.If ▸ in_parens value ⊗ rule stmt ⊗ otherwise)

-- a number with free bits stands only as a whole value of an arm of a `casez`
abbrev pub arm_value : CaseWord → Form Expr
arm_value kind.Case = value
arm_value kind.CaseZ = made e.Number (fixed word.FreeNumber) ∣ value

unfoldable pub default_word : Form (Option Token)
default_word = fixed word.Default ▸ maybe (fixed word.Colon)

unfoldable pub arm_values : CaseWord → Form (List Expr)
arm_values k = list (arm_value k)

unfoldable pub arm : CaseWord → Form Citem
arm k = made a.Default (default_word ▸ rule stmt) ∣ made (λ x. a.Match x.0 x.1) (arm_values k ◂ fixed word.Colon ⊗ rule stmt)

abbrev pub is_default : Citem → Bool
is_default (a.Default b) = true
is_default _ = false

abbrev pub at_most_one : {A : Type 0} → (A → Bool) → List A → Bool
at_most_one f xs = nat_le (count_by f xs) 1

unfoldable pub arm_row : CaseWord → Form (List Citem)
arm_row k = one_and (arm k) (arm k)

unfoldable pub arms : CaseWord → Form (List Citem)
arms k = such (at_most_one is_default) (arm_row k)

unfoldable pub cases : Word → CaseWord → Form Stmt
cases w k = made (λ x. s.Case k x.0 x.1) (fixed w ▸ in_parens value ⊗ arms k ◂ fixed word.EndCase)

unfoldable pub turns : Form Stmt
turns = made (λ x. s.For x.0.start_name x.0.start x.0.test x.0.step_name x.0.step x.1) (fixed word.For ▸ loop_head ⊗ rule stmt)

unfoldable pub assign_word : Form AssignWord
assign_word = means word.EqualSign sign.Blocking ∣ means word.LessEqual sign.Nonblocking

unfoldable pub write : Form Stmt
write = made (λ x. s.Assign x.0.0 x.0.1 x.1) (ended (left_side ⊗ assign_word ⊗ value))

unfoldable pub statement : Form Stmt
statement = means word.Semicolon s.Empty ∣ sequence ∣ choice ∣ cases word.Case kind.Case ∣ cases word.CaseZ kind.CaseZ ∣ turns ∣ write
