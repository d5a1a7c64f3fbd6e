-- Forms of the grammar: what a form spells, and how it is read.
use Rattle.std.specs.Prelude.{◌≡◌, ℕ, zero, suc, Bool, true, false, not, ◌&&◌, ◌||◌, ◌⊎◌, if◌then◌else◌, ◌-◌, ◌==◌, List, [], ◌∷◌, ◌++◌, length, Some, None}
use Rattle.vl_tree.specs.declared.tokens.Token.{Token}
use Rattle.vl_tree.specs.declared.words.Word.{Word}
use Rattle.vl_tree.specs.declared.words.Word.TheVariants as word
use Rattle.vl_tree.specs.declared.expressions.Expr.{Expr}
use Rattle.vl_tree.specs.declared.expressions.Select.{Select}
use Rattle.vl_tree.specs.declared.statements.Stmt.{Stmt}
use Rattle.vl_tree.specs.declared.statements.Lval.{Lval}
use Rattle.vl_tree.specs.declared.modules.Item.{Item}
use Rattle.vl_tree.specs.Words.{word_of, next, same_word}
use Rattle.vl_grammar.specs.Roles.{binds, is_unary}
use Rattle.vl_grammar.specs.Read.{Tokens, Parser, and_then, expect, expr, select}
use Rattle.vl_grammar.specs.Spells.{Whole, Selected}
use Rattle.vl_tree.specs.AllWords.{all}

-- the rules that lead back to themselves
pub data Rule : Type 0 where
  lval : Rule
  stmt : Rule
  item : Rule

abbrev pub Tree : Rule → Type 0
Tree lval = Lval
Tree stmt = Stmt
Tree item = Item

pub data Form : Type 0 → Type 1 where
  -- no tokens, for this value
  empty : {A : Type 0} → A → Form A
  -- no tokens, before another word than this
  unless : {A : Type 0} → Word → A → Form A
  -- a token of this word
  fixed : Word → Form Token
  -- an expression without a number with free bits
  value : Form Expr
  -- a select behind its opening bracket, without a number with free bits
  select_rest : Form Select
  -- one behind the other
  seq : {A B : Type 0} → Form A → Form B → Form (A × B)
  -- what is made of a tree
  made : {A B : Type 0} → (A → B) → Form A → Form B
  -- one or the other
  either : {A : Type 0} → Form A → Form A → Form A
  -- any number
  many : {A : Type 0} → Form A → Form (List A)
  -- one, and any number of others behind it
  one_and : {A : Type 0} → Form A → Form A → Form (List A)
  -- a tree of which this is so
  such : {A : Type 0} → (A → Bool) → Form A → Form A
  rule : (r : Rule) → Form (Tree r)

-- What a form spells

abbrev pub is_free : Word → Bool
is_free w = same_word w word.FreeNumber

-- no number with free bits among the first tokens
abbrev pub none_free : ℕ → Tokens → Bool
none_free zero ts = true
none_free (suc n) [] = true
none_free (suc n) (t ∷ ts) = not (is_free (word_of t)) && none_free n ts

abbrev pub no_free : Tokens → Tokens → Bool
no_free ts rest = none_free (length ts - length rest) ts

-- the trees of a list stand one behind the other
abbrev pub Row : {A : Type 0} → (A → Tokens → Tokens → Type 0) → List A → Tokens → Tokens → Type 0
Row P [] ts rest = ts ≡ rest
Row P (x ∷ xs) ts rest = (mid : Tokens) × P x ts mid × Row P xs mid rest

-- a first tree, and a row of others
abbrev pub Begun : {A : Type 0} → (A → Tokens → Tokens → Type 0) → (A → Tokens → Tokens → Type 0) → List A → Tokens → Tokens → Type 0
Begun P Q [] ts rest = ⊥
Begun P Q (x ∷ xs) ts rest = (mid : Tokens) × P x ts mid × Row Q xs mid rest

module _ (R : (r : Rule) → Tree r → Tokens → Tokens → Type 0) where
  abbrev pub Spells : {A : Type 0} → Form A → A → Tokens → Tokens → Type 0
  Spells (empty a) x ts rest = (a ≡ x) × (ts ≡ rest)
  Spells (unless w a) x ts rest = (a ≡ x) × (ts ≡ rest) × (same_word (next ts) w ≡ false)
  Spells (fixed w) x ts rest = (ts ≡ x ∷ rest) × (word_of x ≡ w)
  Spells value x ts rest = Whole x ts rest × (no_free ts rest ≡ true)
  Spells select_rest x ts rest = Selected x ts rest × (no_free ts rest ≡ true)
  Spells (seq p q) x ts rest = (mid : Tokens) × Spells p x.0 ts mid × Spells q x.1 mid rest
  Spells (made {A} f p) x ts rest = (a : A) × (f a ≡ x) × Spells p a ts rest
  Spells (either p q) x ts rest = Spells p x ts rest ⊎ Spells q x ts rest
  Spells (many p) x ts rest = Row (Spells p) x ts rest
  Spells (one_and p q) x ts rest = Begun (Spells p) (Spells q) x ts rest
  Spells (such t p) x ts rest = Spells p x ts rest × (t x ≡ true)
  Spells (rule r) x ts rest = R r x ts rest

-- What a form begins with, and what it may go on with

-- the words with which an expression begins
unfoldable pub begins : Word → Bool
begins word.Number = true
begins word.Name = true
begins word.System = true
begins word.LeftParen = true
begins word.LeftBrace = true
begins w = is_unary w

-- the words with which an expression goes on
unfoldable pub joins : Word → Bool
joins word.Question = true
joins word.LeftBracket = true
joins word.LeftParen = true
joins w = not (binds w == 0)

-- the words with which a rule begins
unfoldable pub rule_begins : Rule → Word → Bool
rule_begins lval word.Name = true
rule_begins lval word.LeftBrace = true
rule_begins lval _ = false
rule_begins stmt word.Semicolon = true
rule_begins stmt word.Begin = true
rule_begins stmt word.If = true
rule_begins stmt word.Case = true
rule_begins stmt word.CaseZ = true
rule_begins stmt word.For = true
rule_begins stmt word.Name = true
rule_begins stmt word.LeftBrace = true
rule_begins stmt _ = false
rule_begins item word.Input = true
rule_begins item word.Output = true
rule_begins item word.Wire = true
rule_begins item word.Reg = true
rule_begins item word.Integer = true
rule_begins item word.GenVar = true
rule_begins item word.Parameter = true
rule_begins item word.LocalParam = true
rule_begins item word.Assign = true
rule_begins item word.Always = true
rule_begins item word.Initial = true
rule_begins item word.Function = true
rule_begins item word.Name = true
rule_begins item word.And = true
rule_begins item word.Nand = true
rule_begins item word.Or = true
rule_begins item word.Nor = true
rule_begins item word.Xor = true
rule_begins item word.Xnor = true
rule_begins item word.Buf = true
rule_begins item word.Not = true
rule_begins item word.Generate = true
rule_begins item word.For = true
rule_begins item word.If = true
rule_begins item word.Case = true
rule_begins item _ = false

-- the words with which a rule may go on behind a tree
unfoldable pub rule_joins : Rule → Word → Bool
rule_joins lval word.LeftBracket = true
rule_joins _ _ = false

-- whether a form may spell no tokens before this word
abbrev pub skips : {A : Type 0} → Form A → Word → Bool
skips (empty a) w = true
skips (unless v a) w = not (same_word w v)
skips (fixed v) w = false
skips value w = false
skips select_rest w = false
skips (seq p q) w = skips p w && skips q w
skips (made f p) w = skips p w
skips (either p q) w = skips p w || skips q w
skips (many p) w = true
skips (one_and p q) w = skips p w
skips (such t p) w = skips p w
skips (rule r) w = false

-- whether a form may begin with this word
abbrev pub starts : {A : Type 0} → Form A → Word → Bool
starts (empty a) w = false
starts (unless v a) w = false
starts (fixed v) w = same_word w v
starts value w = begins w
starts select_rest w = begins w
starts (seq p q) w = if skips p w then starts p w || starts q w else starts p w
starts (made f p) w = starts p w
starts (either p q) w = starts p w || starts q w
starts (many p) w = starts p w
starts (one_and p q) w = if skips p w then starts p w || starts q w else starts p w
starts (such t p) w = starts p w
starts (rule r) w = rule_begins r w

-- whether a form may go on with this word behind what it spells
abbrev pub goes_on : {A : Type 0} → Form A → Word → Bool
goes_on (empty a) w = false
goes_on (unless v a) w = false
goes_on (fixed v) w = false
goes_on value w = joins w
goes_on select_rest w = false
goes_on (seq p q) w = goes_on q w || (goes_on p w && skips q w)
goes_on (made f p) w = goes_on p w
goes_on (either p q) w = goes_on p w || (goes_on q w || (starts p w && skips q w))
goes_on (many p) w = goes_on p w || starts p w
goes_on (one_and p q) w = goes_on p w || (goes_on q w || starts q w)
goes_on (such t p) w = goes_on p w
goes_on (rule r) w = rule_joins r w

-- whether a form may begin with a rule
abbrev pub leads : {A : Type 0} → Form A → Bool
leads (seq p q) = leads p || (leads q && not (all (λ w. not (skips p w))))
leads (made f p) = leads p
leads (either p q) = leads p || leads q
leads (many p) = leads p
leads (one_and p q) = leads p || (leads q && not (all (λ w. not (skips p w))))
leads (such t p) = leads p
leads (rule r) = true
leads _ = false

-- whether the next word says at each place how a form goes on
abbrev pub decided : {A : Type 0} → Form A → Bool
decided (seq p q) = all (λ w. not (goes_on p w && starts q w)) && (decided p && decided q)
decided (made f p) = decided p
decided (either p q) = all (λ w. not (skips p w) && not (starts p w && starts q w)) && (decided p && decided q)
decided (many p) = all (λ w. not (skips p w) && not (goes_on p w && starts p w)) && decided p
decided (one_and p q) = decided p && (all (λ w. not (goes_on p w && starts q w)) && (all (λ w. not (skips q w) && not (goes_on q w && starts q w)) && decided q))
decided (such t p) = decided p
decided _ = true

-- How a form is read

-- what was read, if none of its tokens is a number with free bits
abbrev pub bound : {A : Type 0} → Parser A → Parser A
bound p = λ ts. and_then (p ts) (λ x rest. if no_free ts rest then Some (x, rest) else None)

unfoldable pub read_value : Parser Expr
read_value = bound (λ ts. expr (suc (length ts)) 0 ts)

unfoldable pub read_select : Parser Select
read_select = bound (λ ts. select (expr (suc (length ts))) ts)

-- trees one behind the other while the next word begins one; the number bounds the turns
abbrev pub row : {A : Type 0} → (Word → Bool) → Parser A → ℕ → List A → Parser (List A)
row begin p zero found ts = Some (found, ts)
row begin p (suc n) found ts = if begin (next ts) then and_then (p ts) (λ x. row begin p n (found ++ x ∷ [])) else Some (found, ts)

-- a first tree, and a row of others
abbrev pub begun : {A : Type 0} → Parser A → (Word → Bool) → Parser A → Parser (List A)
begun p begin q ts = and_then (p ts) (λ a us. row begin q (length us) (a ∷ []) us)

module _ (P : (r : Rule) → Parser (Tree r)) where
  abbrev pub reads : {A : Type 0} → Form A → Parser A
  reads (empty a) ts = Some (a, ts)
  reads (unless w a) ts = if same_word (next ts) w then None else Some (a, ts)
  reads (fixed w) ts = expect w ts
  reads value ts = read_value ts
  reads select_rest ts = read_select ts
  reads (seq p q) ts = and_then (reads p ts) (λ a us. and_then (reads q us) (λ b vs. Some ((a, b), vs)))
  reads (made f p) ts = and_then (reads p ts) (λ a us. Some (f a, us))
  reads (either p q) ts = if starts p (next ts) then reads p ts else reads q ts
  reads (many p) ts = row (starts p) (reads p) (length ts) [] ts
  reads (one_and p q) ts = begun (reads p) (starts q) (reads q) ts
  reads (such t p) ts = and_then (reads p ts) (λ a us. if t a then Some (a, us) else None)
  reads (rule r) ts = P r ts
