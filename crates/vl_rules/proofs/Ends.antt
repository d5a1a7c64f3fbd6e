-- What a form spells has as many words `endmodule` as the form itself names.
use Rattle.std.proofs.Common.{◌≡◌, ℕ, suc, ◌<◌, ◌≤◌, Bool, true, false, ◌||◌, inl, inr, if◌then◌else◌, List, [], ◌∷◌, refl, ap, sym, ◌∙◌, arith}
use Rattle.vl_tree.specs.declared.tokens.Token.{Token}
use Rattle.vl_tree.specs.declared.words.Word.{Word}
use Rattle.vl_tree.specs.declared.words.Word.TheVariants as word
use Rattle.vl_tree.specs.declared.expressions.Expr.{Expr}
use Rattle.vl_tree.specs.declared.expressions.Select.{Select}
use Rattle.vl_tree.specs.Words.{word_of, same_word}
use Rattle.vl_grammar.specs.Roles.{binds, is_unary}
use Rattle.vl_grammar.specs.Read.{Tokens}
use Rattle.vl_grammar.specs.Spells.{Whole, plain, choice, Joined, alone, binary, Prefix, unary, itself, Primary, number, free_number, name, selected, call, system, group, concat, repeat, Listed, one, more, Selected, index, range, up, down}
use Rattle.vl_rules.specs.Form.{Rule, Tree, Form, empty, unless, fixed, value, select_rest, seq, made, either, many, one_and, such, rule, Spells, Row, Begun}
use Rattle.vl_rules.proofs.Tools.{same_ok, nor_first, nor_second, never}

abbrev pub closing : Word → Bool
closing w = same_word w word.EndModule

-- how many of the tokens are `endmodule`
abbrev pub ends : Tokens → ℕ
ends [] = 0
ends (t ∷ ts) = if closing (word_of t) then suc (ends ts) else ends ts

pub passes_by : (t : Token) (ts : Tokens) → closing (word_of t) ≡ false → ends (t ∷ ts) ≡ ends ts
passes_by t ts h = rw h

other : (w v : Word) → w ≡ v → closing v ≡ false → closing w ≡ false
other w v h k = ap closing h ∙ k

-- Words of expressions

binds_none : binds word.EndModule ≡ 0
unfolding binds
binds_none = refl

unary_not : is_unary word.EndModule ≡ false
unfolding is_unary
unary_not = refl

operator_by : (w : Word) (p : ℕ) (b : Bool) → closing w ≡ b → 0 < p → binds w ≡ p → b ≡ false
operator_by w p true is pos h = absurd (omega (arith, pos, sym h ∙ (ap binds (same_ok w word.EndModule is) ∙ binds_none)))
operator_by w p false is pos h = refl

operator : (w : Word) (n p : ℕ) → 0 < n → n ≤ p → binds w ≡ p → closing w ≡ false
operator w n p pos low h = operator_by w p (closing w) refl (omega (arith, pos, low)) h

prefix_by : (w : Word) (b : Bool) → closing w ≡ b → is_unary w ≡ true → b ≡ false
prefix_by w true is h = never (is_unary w) h (ap is_unary (same_ok w word.EndModule is) ∙ unary_not)
prefix_by w false is h = refl

not_question : closing word.Question ≡ false
unfolding same_word
not_question = refl

not_colon : closing word.Colon ≡ false
unfolding same_word
not_colon = refl

not_number : closing word.Number ≡ false
unfolding same_word
not_number = refl

not_free : closing word.FreeNumber ≡ false
unfolding same_word
not_free = refl

not_name : closing word.Name ≡ false
unfolding same_word
not_name = refl

not_system : closing word.System ≡ false
unfolding same_word
not_system = refl

not_left_paren : closing word.LeftParen ≡ false
unfolding same_word
not_left_paren = refl

not_right_paren : closing word.RightParen ≡ false
unfolding same_word
not_right_paren = refl

not_left_brace : closing word.LeftBrace ≡ false
unfolding same_word
not_left_brace = refl

not_right_brace : closing word.RightBrace ≡ false
unfolding same_word
not_right_brace = refl

not_left_bracket : closing word.LeftBracket ≡ false
unfolding same_word
not_left_bracket = refl

not_right_bracket : closing word.RightBracket ≡ false
unfolding same_word
not_right_bracket = refl

not_comma : closing word.Comma ≡ false
unfolding same_word
not_comma = refl

not_plus_colon : closing word.PlusColon ≡ false
unfolding same_word
not_plus_colon = refl

not_minus_colon : closing word.MinusColon ≡ false
unfolding same_word
not_minus_colon = refl

-- a token of another word
past : (t : Token) (v : Word) (ts : Tokens) → word_of t ≡ v → closing v ≡ false → ends (t ∷ ts) ≡ ends ts
past t v ts h k = passes_by t ts (other (word_of t) v h k)

mutual
  pub whole_ends : {t : Expr} {ts rest : Tokens} → Whole t ts rest → ends ts ≡ ends rest
  whole_ends (plain d) = joined_ends d
  whole_ends (choice {q = q} {k = k} {us = us} {vs = vs} c hq a hk b) =
      joined_ends c ∙ (past q word.Question us hq not_question ∙ (whole_ends a ∙ (past k word.Colon vs hk not_colon ∙ whole_ends b)))

  joined_ends : {n : ℕ} {t : Expr} {ts rest : Tokens} → Joined n t ts rest → ends ts ≡ ends rest
  joined_ends (alone d) = prefix_ends d
  joined_ends (binary {n = n} {p = p} {op = op} {us = us} pos low at l r) =
      joined_ends l ∙ (passes_by op us (operator (word_of op) n p pos low at) ∙ joined_ends r)

  prefix_ends : {t : Expr} {ts rest : Tokens} → Prefix t ts rest → ends ts ≡ ends rest
  prefix_ends (unary {op = op} {ts = ts} u d) = passes_by op ts (prefix_by (word_of op) (closing (word_of op)) refl u) ∙ prefix_ends d
  prefix_ends (itself d) = primary_ends d

  primary_ends : {t : Expr} {ts rest : Tokens} → Primary t ts rest → ends ts ≡ ends rest
  primary_ends (number {t = t} {rest = rest} h) = past t word.Number rest h not_number
  primary_ends (free_number {t = t} {rest = rest} h) = past t word.FreeNumber rest h not_free
  primary_ends (name {t = t} {rest = rest} h) = past t word.Name rest h not_name
  primary_ends (selected {t = t} {b = b} {ts = ts} h k d) =
      past t word.Name (b ∷ ts) h not_name ∙ (past b word.LeftBracket ts k not_left_bracket ∙ selected_ends d)
  primary_ends (call {t = t} {a = a} {z = z} {ts = ts} {rest = rest} h k d e) =
      past t word.Name (a ∷ ts) h not_name ∙ (past a word.LeftParen ts k not_left_paren ∙ (listed_ends d ∙ past z word.RightParen rest e not_right_paren))
  primary_ends (system {t = t} {a = a} {z = z} {ts = ts} {rest = rest} h k d e) =
      past t word.System (a ∷ ts) h not_system ∙ (past a word.LeftParen ts k not_left_paren ∙ (whole_ends d ∙ past z word.RightParen rest e not_right_paren))
  primary_ends (group {a = a} {z = z} {ts = ts} {rest = rest} k d e) =
      past a word.LeftParen ts k not_left_paren ∙ (whole_ends d ∙ past z word.RightParen rest e not_right_paren)
  primary_ends (concat {a = a} {z = z} {ts = ts} {rest = rest} k d e) =
      past a word.LeftBrace ts k not_left_brace ∙ (listed_ends d ∙ past z word.RightBrace rest e not_right_brace)
  primary_ends (repeat {a = a} {b = b} {y = y} {z = z} {ts = ts} {us = us} {rest = rest} k n h d e f) =
      past a word.LeftBrace ts k not_left_brace
      ∙ (whole_ends n ∙ (past b word.LeftBrace us h not_left_brace
      ∙ (listed_ends d ∙ (past y word.RightBrace (z ∷ rest) e not_right_brace ∙ past z word.RightBrace rest f not_right_brace))))

  listed_ends : {xs : List Expr} {ts rest : Tokens} → Listed xs ts rest → ends ts ≡ ends rest
  listed_ends (one d) = whole_ends d
  listed_ends (more {k = k} {us = us} d h ds) = whole_ends d ∙ (past k word.Comma us h not_comma ∙ listed_ends ds)

  pub selected_ends : {x : Select} {ts rest : Tokens} → Selected x ts rest → ends ts ≡ ends rest
  selected_ends (index {z = z} {rest = rest} d h) = whole_ends d ∙ past z word.RightBracket rest h not_right_bracket
  selected_ends (range {k = k} {z = z} {us = us} {rest = rest} d h e c) =
      whole_ends d ∙ (past k word.Colon us h not_colon ∙ (whole_ends e ∙ past z word.RightBracket rest c not_right_bracket))
  selected_ends (up {k = k} {z = z} {us = us} {rest = rest} d h e c) =
      whole_ends d ∙ (past k word.PlusColon us h not_plus_colon ∙ (whole_ends e ∙ past z word.RightBracket rest c not_right_bracket))
  selected_ends (down {k = k} {z = z} {us = us} {rest = rest} d h e c) =
      whole_ends d ∙ (past k word.MinusColon us h not_minus_colon ∙ (whole_ends e ∙ past z word.RightBracket rest c not_right_bracket))

-- Forms

-- whether a form may spell the word `endmodule` outside of the rules that it names
abbrev pub may_close : {A : Type 0} → Form A → Bool
may_close (fixed w) = closing w
may_close (seq p q) = may_close p || may_close q
may_close (made f p) = may_close p
may_close (either p q) = may_close p || may_close q
may_close (many p) = may_close p
may_close (one_and p q) = may_close p || may_close q
may_close (such t p) = may_close p
may_close _ = false

abbrev pub Even : {A : Type 0} → (A → Tokens → Tokens → Type 0) → Type 0
Even {A} P = (x : A) (ts rest : Tokens) → P x ts rest → ends ts ≡ ends rest

row_ends : {A : Type 0} (P : A → Tokens → Tokens → Type 0) → Even P → (xs : List A) (ts rest : Tokens) → Row P xs ts rest → ends ts ≡ ends rest
row_ends P h [] ts rest d = ap ends d
row_ends P h (x ∷ xs) ts rest d = h x ts d.0 d.1 ∙ row_ends P h xs d.0 rest d.2

begun_ends : {A : Type 0} (P Q : A → Tokens → Tokens → Type 0) → Even P → Even Q → (xs : List A) (ts rest : Tokens) → Begun P Q xs ts rest → ends ts ≡ ends rest
begun_ends P Q h k [] ts rest d = absurd d
begun_ends P Q h k (x ∷ xs) ts rest d = h x ts d.0 d.1 ∙ row_ends Q k xs d.0 rest d.2

module _ (R : (r : Rule) → Tree r → Tokens → Tokens → Type 0) (H : (r : Rule) → Even (R r)) where
  pub even : {A : Type 0} (p : Form A) → may_close p ≡ false → (x : A) (ts rest : Tokens) → Spells R p x ts rest → ends ts ≡ ends rest
  even (empty a) h x ts rest d = ap ends d.1
  even (unless w a) h x ts rest d = ap ends d.1
  even (fixed w) h x ts rest d = ap ends d.0 ∙ past x w rest d.1 h
  even value h x ts rest d = whole_ends d.0
  even select_rest h x ts rest d = selected_ends d.0
  even (seq p q) h x ts rest d =
      even p (nor_first (may_close p) (may_close q) h) x.0 ts d.0 d.1 ∙ even q (nor_second (may_close p) (may_close q) h) x.1 d.0 rest d.2
  even (made f p) h x ts rest d = even p h d.0 ts rest d.2
  even (either p q) h x ts rest (inl d) = even p (nor_first (may_close p) (may_close q) h) x ts rest d
  even (either p q) h x ts rest (inr d) = even q (nor_second (may_close p) (may_close q) h) x ts rest d
  even (many p) h x ts rest d = row_ends (Spells R p) (even p h) x ts rest d
  even (one_and p q) h x ts rest d =
      begun_ends (Spells R p) (Spells R q) (even p (nor_first (may_close p) (may_close q) h)) (even q (nor_second (may_close p) (may_close q) h)) x ts rest d
  even (such t p) h x ts rest d = even p h x ts rest d.0
  even (rule r) h x ts rest d = H r x ts rest d
