-- Reading an expression off the front of a list of tokens. A number bounds how deep it nests.
use Rattle.std.specs.Prelude.{ℕ, zero, suc, ◌+◌, if◌then◌else◌, nat_lt, List, [], ◌∷◌, ◌++◌, length, Option, Some, None}
use Rattle.vl_tree.specs.declared.tokens.Token.{Token}
use Rattle.vl_tree.specs.declared.words.Word.{Word}
use Rattle.vl_tree.specs.declared.words.Word.TheVariants as word
use Rattle.vl_tree.specs.declared.expressions.Expr.{Expr}
use Rattle.vl_tree.specs.declared.expressions.Expr.TheVariants as e
use Rattle.vl_tree.specs.declared.expressions.Select.{Select}
use Rattle.vl_tree.specs.declared.expressions.Select.TheVariants as s
use Rattle.vl_tree.specs.Words.{word_of, next, same_word}
use Rattle.vl_grammar.specs.declared.roles.Role.{Role}
use Rattle.vl_grammar.specs.declared.roles.Role.TheVariants as role
use Rattle.vl_grammar.specs.Roles.{role_of, binds, is_unary}

abbrev pub Tokens : Type 0
Tokens = List Token

-- what was read, and the tokens behind it
abbrev pub Outcome : Type 0 → Type 0
Outcome A = Option (A × Tokens)

abbrev pub Parser : Type 0 → Type 0
Parser A = Tokens → Outcome A

abbrev pub and_then : {A B : Type 0} → Outcome A → (A → Parser B) → Outcome B
and_then (Some p) f = f p.0 p.1
and_then None f = None

infixl 10 ◌>>=◌
abbrev pub ◌>>=◌ : {A B : Type 0} → Parser A → (A → Parser B) → Parser B
p >>= f = λ ts. and_then (p ts) f

infixl 10 ◌>>◌
abbrev pub ◌>>◌ : {A B : Type 0} → Parser A → Parser B → Parser B
p >> q = p >>= (λ _. q)

abbrev pub pure : {A : Type 0} → A → Parser A
pure a = λ ts. Some (a, ts)

abbrev pub refuse : {A : Type 0} → Parser A
refuse = λ _. None

abbrev pub peek : Parser Word
peek = λ ts. Some (next ts, ts)

-- the role of the next token
abbrev pub ahead : Parser Role
ahead = λ ts. Some (role_of (next ts), ts)

abbrev pub token : Parser Token
token [] = None
token (t ∷ ts) = Some (t, ts)

-- a token of this word
abbrev pub expect : Word → Parser Token
expect w [] = None
expect w (t ∷ ts) = if same_word (word_of t) w then Some (t, ts) else None

-- The number is the least level of the expression that is read.
module _ (expr : ℕ → Parser Expr) where
  abbrev whole : Parser Expr
  whole = expr 0

  -- more after commas; the number bounds the turns
  unfoldable pub list_from : ℕ → List Expr → Parser (List Expr)
  list_from zero found = pure found
  list_from (suc n) found = do
    seen ← peek
    if same_word seen word.Comma then (do token; x ← whole; list_from n (found ++ x ∷ [])) else pure found

  unfoldable pub list_after : Expr → Parser (List Expr)
  list_after first = λ ts. list_from (length ts) (first ∷ []) ts

  -- one or more, with commas between
  unfoldable pub list : Parser (List Expr)
  list = whole >>= list_after

  unfoldable pub grouped : Parser Expr
  grouped = do
    inner ← whole
    expect word.RightParen
    pure (e.Group inner)

  unfoldable pub call : Token → Parser Expr
  call name = do
    arguments ← list
    expect word.RightParen
    pure (e.Call name arguments)

  unfoldable pub system : Token → Parser Expr
  system name = do
    expect word.LeftParen
    argument ← whole
    expect word.RightParen
    pure (e.System name argument)

  -- the second bound of a select, after the sign between the two
  unfoldable pub bound : Parser Expr
  bound = do
    token
    second ← whole
    expect word.RightBracket
    pure second

  -- after the first bound
  abbrev pub select_by : Expr → Role → Parser Select
  select_by first role.RightBracket = token >> pure (s.Index first)
  select_by first role.Colon = bound >>= λ second. pure (s.Range first second)
  select_by first role.PlusColon = bound >>= λ second. pure (s.Up first second)
  select_by first role.MinusColon = bound >>= λ second. pure (s.Down first second)
  select_by first _ = refuse

  unfoldable pub select : Parser Select
  select = do
    first ← whole
    seen ← ahead
    select_by first seen

  abbrev pub named_by : Token → Role → Parser Expr
  named_by name role.LeftParen = token >> call name
  named_by name role.LeftBracket = (token >> select) >>= λ found. pure (e.Name name (found ∷ []))
  named_by name _ = pure (e.Name name [])

  unfoldable pub named : Token → Parser Expr
  named name = ahead >>= named_by name

  unfoldable pub repeated : Expr → Parser Expr
  repeated count = do
    parts ← list
    expect word.RightBrace
    expect word.RightBrace
    pure (e.Repeat count parts)

  unfoldable pub concat : Expr → Parser Expr
  concat first = do
    parts ← list_after first
    expect word.RightBrace
    pure (e.Concat parts)

  abbrev pub braced_by : Expr → Role → Parser Expr
  braced_by first role.LeftBrace = token >> repeated first
  braced_by first _ = concat first

  unfoldable pub braced : Parser Expr
  braced = do
    first ← whole
    seen ← ahead
    braced_by first seen

  abbrev pub primary_by : Role → Token → Parser Expr
  primary_by role.Number t = pure (e.Number t)
  primary_by role.Name t = named t
  primary_by role.System t = system t
  primary_by role.LeftParen t = grouped
  primary_by role.LeftBrace t = braced
  primary_by _ t = refuse

  unfoldable pub primary : Parser Expr
  primary = token >>= λ t. primary_by (role_of (word_of t)) t

  unfoldable pub prefix : Parser Expr
  prefix = do
    seen ← peek
    if is_unary seen then (do op ← token; x ← expr 12; pure (e.Unary op x)) else primary

  unfoldable pub climb : ℕ → ℕ → Expr → Parser Expr
  climb least zero left = pure left
  climb least (suc n) left = do
    seen ← peek
    if nat_lt (binds seen) least then pure left else (do op ← token; right ← expr (binds seen + 1); climb least n (e.Binary op left right))

  -- operands joined by operators that bind at least as tightly as the number
  unfoldable pub joined : ℕ → Parser Expr
  joined least = prefix >>= λ first ts. climb least (length ts) first ts

  unfoldable pub choose : Expr → Parser Expr
  choose test = do
    a ← whole
    expect word.Colon
    b ← whole
    pure (e.Choice test a b)

  abbrev pub choice_by : Expr → Role → Parser Expr
  choice_by test role.Question = token >> choose test
  choice_by test _ = pure test

  unfoldable pub choice : Expr → Parser Expr
  choice test = ahead >>= choice_by test

  abbrev pub level : ℕ → Parser Expr
  level zero = joined 1 >>= choice
  level (suc n) = joined (suc n)

unfoldable pub expr : ℕ → ℕ → Parser Expr
expr zero least = refuse
expr (suc depth) least = level (expr depth) least
