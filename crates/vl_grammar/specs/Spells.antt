-- The grammar of expressions (IEEE 1364-2005, A.8.3 and A.8.4, with the levels of 5.1.2). `Whole t ts rest` says that the tree t spells the tokens of ts up to rest.
use Rattle.std.specs.Prelude.{◌≡◌, ◌≢◌, ℕ, suc, ◌<◌, ◌≤◌, true, List, [], ◌∷◌}
use Rattle.vl_tree.specs.declared.tokens.Token.{Token}
use Rattle.vl_tree.specs.declared.words.Word.{Word}
use Rattle.vl_tree.specs.declared.words.Word.TheVariants as word
use Rattle.vl_tree.specs.declared.expressions.Expr.{Expr}
use Rattle.vl_tree.specs.declared.expressions.Expr.TheVariants as e
use Rattle.vl_tree.specs.declared.expressions.Select.{Select}
use Rattle.vl_tree.specs.declared.expressions.Select.TheVariants as s
use Rattle.vl_tree.specs.Words.{word_of}
use Rattle.vl_grammar.specs.Roles.{binds, is_unary}
use Rattle.vl_grammar.specs.Read.{Tokens}

mutual
  -- an expression
  pub data Whole : Expr → Tokens → Tokens → Type 0 where
    plain : {t : Expr} {ts rest : Tokens} → Joined 1 t ts rest → Whole t ts rest
    choice : {c a b : Expr} {q k : Token} {ts us vs rest : Tokens}
        → Joined 1 c ts (q ∷ us) → word_of q ≡ word.Question → Whole a us (k ∷ vs) → word_of k ≡ word.Colon → Whole b vs rest
        → Whole (e.Choice c a b) ts rest

  -- operands joined by operators of this level or a tighter one; those of one level group from the left
  pub data Joined : ℕ → Expr → Tokens → Tokens → Type 0 where
    alone : {n : ℕ} {t : Expr} {ts rest : Tokens} → Prefix t ts rest → Joined n t ts rest
    binary : {n p : ℕ} {l r : Expr} {op : Token} {ts us rest : Tokens}
        → 0 < n → n ≤ p → binds (word_of op) ≡ p → Joined p l ts (op ∷ us) → Joined (suc p) r us rest
        → Joined n (e.Binary op l r) ts rest

  pub data Prefix : Expr → Tokens → Tokens → Type 0 where
    unary : {op : Token} {x : Expr} {ts rest : Tokens} → is_unary (word_of op) ≡ true → Prefix x ts rest → Prefix (e.Unary op x) (op ∷ ts) rest
    itself : {x : Expr} {ts rest : Tokens} → Primary x ts rest → Prefix x ts rest

  pub data Primary : Expr → Tokens → Tokens → Type 0 where
    number : {t : Token} {rest : Tokens} → word_of t ≡ word.Number → Primary (e.Number t) (t ∷ rest) rest
    free_number : {t : Token} {rest : Tokens} → word_of t ≡ word.FreeNumber → Primary (e.Number t) (t ∷ rest) rest
    name : {t : Token} {rest : Tokens} → word_of t ≡ word.Name → Primary (e.Name t []) (t ∷ rest) rest
    selected : {t b : Token} {x : Select} {ts rest : Tokens} → word_of t ≡ word.Name → word_of b ≡ word.LeftBracket → Selected x ts rest
        → Primary (e.Name t (x ∷ [])) (t ∷ b ∷ ts) rest
    call : {t a z : Token} {xs : List Expr} {ts rest : Tokens}
        → word_of t ≡ word.Name → word_of a ≡ word.LeftParen → Listed xs ts (z ∷ rest) → word_of z ≡ word.RightParen
        → Primary (e.Call t xs) (t ∷ a ∷ ts) rest
    system : {t a z : Token} {x : Expr} {ts rest : Tokens}
        → word_of t ≡ word.System → word_of a ≡ word.LeftParen → Whole x ts (z ∷ rest) → word_of z ≡ word.RightParen
        → Primary (e.System t x) (t ∷ a ∷ ts) rest
    group : {a z : Token} {x : Expr} {ts rest : Tokens}
        → word_of a ≡ word.LeftParen → Whole x ts (z ∷ rest) → word_of z ≡ word.RightParen
        → Primary (e.Group x) (a ∷ ts) rest
    concat : {a z : Token} {xs : List Expr} {ts rest : Tokens}
        → word_of a ≡ word.LeftBrace → Listed xs ts (z ∷ rest) → word_of z ≡ word.RightBrace
        → Primary (e.Concat xs) (a ∷ ts) rest
    repeat : {a b y z : Token} {n : Expr} {xs : List Expr} {ts us rest : Tokens}
        → word_of a ≡ word.LeftBrace → Whole n ts (b ∷ us) → word_of b ≡ word.LeftBrace → Listed xs us (y ∷ z ∷ rest)
        → word_of y ≡ word.RightBrace → word_of z ≡ word.RightBrace
        → Primary (e.Repeat n xs) (a ∷ ts) rest

  -- one or more, with commas between
  pub data Listed : List Expr → Tokens → Tokens → Type 0 where
    one : {x : Expr} {ts rest : Tokens} → Whole x ts rest → Listed (x ∷ []) ts rest
    more : {x y : Expr} {xs : List Expr} {k : Token} {ts us rest : Tokens}
        → Whole x ts (k ∷ us) → word_of k ≡ word.Comma → Listed (y ∷ xs) us rest → Listed (x ∷ y ∷ xs) ts rest

  -- a select behind its opening bracket
  pub data Selected : Select → Tokens → Tokens → Type 0 where
    index : {x : Expr} {z : Token} {ts rest : Tokens} → Whole x ts (z ∷ rest) → word_of z ≡ word.RightBracket → Selected (s.Index x) ts rest
    range : {x y : Expr} {k z : Token} {ts us rest : Tokens}
        → Whole x ts (k ∷ us) → word_of k ≡ word.Colon → Whole y us (z ∷ rest) → word_of z ≡ word.RightBracket → Selected (s.Range x y) ts rest
    up : {x y : Expr} {k z : Token} {ts us rest : Tokens}
        → Whole x ts (k ∷ us) → word_of k ≡ word.PlusColon → Whole y us (z ∷ rest) → word_of z ≡ word.RightBracket → Selected (s.Up x y) ts rest
    down : {x y : Expr} {k z : Token} {ts us rest : Tokens}
        → Whole x ts (k ∷ us) → word_of k ≡ word.MinusColon → Whole y us (z ∷ rest) → word_of z ≡ word.RightBracket → Selected (s.Down x y) ts rest

-- no name goes on with this word
pub record Bare (w : Word) : Type 0 where
  pub selects : w ≢ word.LeftBracket
  pub calls : w ≢ word.LeftParen

-- no expression goes on with this word
pub record Ends (w : Word) : Type 0 where
  pub joins : binds w ≡ 0
  pub chooses : w ≢ word.Question
  pub bare : Bare w
