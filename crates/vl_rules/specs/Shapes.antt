-- Parts that many rules share.
use Rattle.std.specs.Prelude.{Bool, true, false, List, Option, Some, None}
use Rattle.vl_tree.specs.declared.tokens.Token.{Token}
use Rattle.vl_tree.specs.declared.words.Word.{Word}
use Rattle.vl_tree.specs.declared.words.Word.TheVariants as word
use Rattle.vl_tree.specs.declared.expressions.Expr.{Expr}
use Rattle.vl_rules.specs.Form.{Form, empty, fixed, value, seq, made, either, one_and}

-- one or the other
infixr 10 ◌∣◌
abbrev pub ◌∣◌ : {A : Type 0} → Form A → Form A → Form A
p ∣ q = either p q

-- one behind the other, of which the second is kept
infixl 20 ◌▸◌
abbrev pub ◌▸◌ : {A B : Type 0} → Form A → Form B → Form B
p ▸ q = made (λ x. x.1) (seq p q)

-- one behind the other, of which the first is kept
infixl 20 ◌◂◌
abbrev pub ◌◂◌ : {A B : Type 0} → Form A → Form B → Form A
p ◂ q = made (λ x. x.0) (seq p q)

-- one behind the other, both kept
infixl 20 ◌⊗◌
abbrev pub ◌⊗◌ : {A B : Type 0} → Form A → Form B → Form (A × B)
p ⊗ q = seq p q

abbrev pub maybe : {A : Type 0} → Form A → Form (Option A)
maybe p = made Some p ∣ empty None

-- a word that stands for a value
abbrev pub means : {A : Type 0} → Word → A → Form A
means w a = made (λ _. a) (fixed w)

-- whether a word stands there
abbrev pub flag : Word → Form Bool
flag w = means w true ∣ empty false

-- one or more with commas between
abbrev pub list : {A : Type 0} → Form A → Form (List A)
list p = one_and p (fixed word.Comma ▸ p)

abbrev pub in_parens : {A : Type 0} → Form A → Form A
in_parens p = fixed word.LeftParen ▸ p ◂ fixed word.RightParen

abbrev pub ended : {A : Type 0} → Form A → Form A
ended p = p ◂ fixed word.Semicolon

abbrev pub name : Form Token
name = fixed word.Name

abbrev pub after_equals : Form Expr
after_equals = fixed word.EqualSign ▸ value
