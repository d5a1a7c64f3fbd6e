-- What the reader does at each rule.
use Rattle.std.proofs.Common.{◌≡◌, ◌≢◌, ℕ, zero, suc, ◌+◌, ◌<◌, ◌≤◌, true, false, List, [], ◌∷◌, ◌++◌, length, Some, refl}
use Rattle.std.proofs.Common.{rules}
use Rattle.std.proofs.lemmas.Bool.{lt-ltb, le-ltb}
use denote.Enum.Bare.{true_same, false_same}
use Rattle.vl_tree.specs.contracts.words.Word.{the_type}
use Rattle.vl_tree.specs.declared.tokens.Token.{Token}
use Rattle.vl_tree.specs.declared.words.Word.{Word}
use Rattle.vl_tree.specs.declared.words.Word.TheVariants as word
use Rattle.vl_tree.specs.declared.expressions.Expr.{Expr}
use Rattle.vl_tree.specs.declared.expressions.Expr.TheVariants as e
use Rattle.vl_tree.specs.declared.expressions.Select.{Select}
use Rattle.vl_tree.specs.declared.expressions.Select.TheVariants as s
use Rattle.vl_tree.specs.Words.{word_of, next, same_word}
use Rattle.vl_grammar.specs.declared.roles.Role.{Role}
use Rattle.vl_grammar.specs.declared.roles.Role.TheVariants as role
use Rattle.vl_grammar.specs.Roles.{role_of, binds, is_unary}
use Rattle.vl_grammar.proofs.RoleWords.{is_left_paren, is_left_bracket, is_left_brace, is_question}
use Rattle.vl_grammar.specs.Read.{Tokens, Parser, list_from, list_after, list, grouped, call, system, bound, select, named_by, named, repeated, concat, braced_by, braced, primary, prefix, climb, joined, choose, choice_by, choice, expr}
use Rattle.vl_grammar.specs.Spells.{Bare}

pub same_refl : (w : Word) → same_word w w ≡ true
unfolding same_word
same_refl w = true_same the_type w w refl

named_other : (E : ℕ → Parser Expr) (t : Token) (r : Role) (ts : Tokens) → r ≢ role.LeftParen → r ≢ role.LeftBracket → named_by E t r ts ≡ Some (e.Name t [], ts)
named_other E t role.LeftParen ts p b = absurd (p refl)
named_other E t role.LeftBracket ts p b = absurd (b refl)
named_other E t _ ts p b = refl

pub named_bare : (E : ℕ → Parser Expr) (t : Token) (w : Word) (ts : Tokens) → Bare w → named_by E t (role_of w) ts ≡ Some (e.Name t [], ts)
named_bare E t w ts b = named_other E t (role_of w) ts (λ h. b.calls (is_left_paren w h)) (λ h. b.selects (is_left_bracket w h))

choice_other : (E : ℕ → Parser Expr) (t : Expr) (r : Role) (ts : Tokens) → r ≢ role.Question → choice_by E t r ts ≡ Some (t, ts)
choice_other E t role.Question ts b = absurd (b refl)
choice_other E t _ ts b = refl

pub choice_ends : (E : ℕ → Parser Expr) (t : Expr) (w : Word) (ts : Tokens) → w ≢ word.Question → choice_by E t (role_of w) ts ≡ Some (t, ts)
choice_ends E t w ts b = choice_other E t (role_of w) ts (λ h. b (is_question w h))

braced_other : (E : ℕ → Parser Expr) (x : Expr) (r : Role) (ts : Tokens) → r ≢ role.LeftBrace → braced_by E x r ts ≡ concat E x ts
braced_other E x role.LeftBrace ts b = absurd (b refl)
braced_other E x _ ts b = refl

pub braced_list : (E : ℕ → Parser Expr) (x : Expr) (w : Word) (ts : Tokens) → w ≢ word.LeftBrace → braced_by E x (role_of w) ts ≡ concat E x ts
braced_list E x w ts b = braced_other E x (role_of w) ts (λ h. b (is_left_brace w h))

module _ (E : ℕ → Parser Expr) where
  pub number_reads : (t : Token) (rest : Tokens) → word_of t ≡ word.Number → primary E (t ∷ rest) ≡ Some (e.Number t, rest)
  unfolding primary role_of
  number_reads t rest h = rw h

  pub free_number_reads : (t : Token) (rest : Tokens) → word_of t ≡ word.FreeNumber → primary E (t ∷ rest) ≡ Some (e.Number t, rest)
  unfolding primary role_of
  free_number_reads t rest h = rw h

  pub name_reads : (t : Token) (rest : Tokens) → word_of t ≡ word.Name → Bare (next rest) → primary E (t ∷ rest) ≡ Some (e.Name t [], rest)
  unfolding primary named role_of
  name_reads t rest h b = rw h (named_bare E t (next rest) rest b)

  pub selected_reads : (t b : Token) (x : Select) (ts rest : Tokens) → word_of t ≡ word.Name → word_of b ≡ word.LeftBracket
      → select E ts ≡ Some (x, rest) → primary E (t ∷ b ∷ ts) ≡ Some (e.Name t (x ∷ []), rest)
  unfolding primary named role_of
  selected_reads t b x ts rest h k r = rw (h, k, r)

  pub call_reads : (t a z : Token) (xs : List Expr) (ts rest : Tokens) → word_of t ≡ word.Name → word_of a ≡ word.LeftParen
      → list E ts ≡ Some (xs, z ∷ rest) → word_of z ≡ word.RightParen → primary E (t ∷ a ∷ ts) ≡ Some (e.Call t xs, rest)
  unfolding primary named role_of call
  call_reads t a z xs ts rest h k r c = rw (h, k, r, c, same_refl word.RightParen)

  pub system_reads : (t a z : Token) (x : Expr) (ts rest : Tokens) → word_of t ≡ word.System → word_of a ≡ word.LeftParen
      → E 0 ts ≡ Some (x, z ∷ rest) → word_of z ≡ word.RightParen → primary E (t ∷ a ∷ ts) ≡ Some (e.System t x, rest)
  unfolding primary role_of system
  system_reads t a z x ts rest h k r c = rw (h, k, same_refl word.LeftParen, r, c, same_refl word.RightParen)

  pub group_reads : (a z : Token) (x : Expr) (ts rest : Tokens) → word_of a ≡ word.LeftParen
      → E 0 ts ≡ Some (x, z ∷ rest) → word_of z ≡ word.RightParen → primary E (a ∷ ts) ≡ Some (e.Group x, rest)
  unfolding primary role_of grouped
  group_reads a z x ts rest k r c = rw (k, r, c, same_refl word.RightParen)

  pub concat_reads : (a z : Token) (x : Expr) (xs : List Expr) (ts us rest : Tokens) → word_of a ≡ word.LeftBrace
      → E 0 ts ≡ Some (x, us) → next us ≢ word.LeftBrace → list_after E x us ≡ Some (xs, z ∷ rest) → word_of z ≡ word.RightBrace
      → primary E (a ∷ ts) ≡ Some (e.Concat xs, rest)
  unfolding primary role_of braced concat
  concat_reads a z x xs ts us rest k r n l c = rw (k, r, braced_list E x (next us) us n, l, c, same_refl word.RightBrace)

  pub repeat_reads : (a b y z : Token) (n : Expr) (xs : List Expr) (ts us rest : Tokens) → word_of a ≡ word.LeftBrace
      → E 0 ts ≡ Some (n, b ∷ us) → word_of b ≡ word.LeftBrace → list E us ≡ Some (xs, y ∷ z ∷ rest)
      → word_of y ≡ word.RightBrace → word_of z ≡ word.RightBrace → primary E (a ∷ ts) ≡ Some (e.Repeat n xs, rest)
  unfolding primary role_of braced repeated
  repeat_reads a b y z n xs ts us rest k r h l c d = rw (k, r, h, l, c, same_refl word.RightBrace, d, same_refl word.RightBrace)

  pub index_reads : (z : Token) (x : Expr) (ts rest : Tokens) → E 0 ts ≡ Some (x, z ∷ rest) → word_of z ≡ word.RightBracket → select E ts ≡ Some (s.Index x, rest)
  unfolding select role_of
  index_reads z x ts rest r c = rw (r, c)

  pub bound_reads : (k z : Token) (y : Expr) (us rest : Tokens) → E 0 us ≡ Some (y, z ∷ rest) → word_of z ≡ word.RightBracket → bound E (k ∷ us) ≡ Some (y, rest)
  unfolding bound
  bound_reads k z y us rest r c = rw (r, c, same_refl word.RightBracket)

  pub range_reads : (k : Token) (x y : Expr) (ts us rest : Tokens) → E 0 ts ≡ Some (x, k ∷ us) → word_of k ≡ word.Colon → bound E (k ∷ us) ≡ Some (y, rest) → select E ts ≡ Some (s.Range x y, rest)
  unfolding select role_of
  range_reads k x y ts us rest r c b = rw (r, c, b)

  pub up_reads : (k : Token) (x y : Expr) (ts us rest : Tokens) → E 0 ts ≡ Some (x, k ∷ us) → word_of k ≡ word.PlusColon → bound E (k ∷ us) ≡ Some (y, rest) → select E ts ≡ Some (s.Up x y, rest)
  unfolding select role_of
  up_reads k x y ts us rest r c b = rw (r, c, b)

  pub down_reads : (k : Token) (x y : Expr) (ts us rest : Tokens) → E 0 ts ≡ Some (x, k ∷ us) → word_of k ≡ word.MinusColon → bound E (k ∷ us) ≡ Some (y, rest) → select E ts ≡ Some (s.Down x y, rest)
  unfolding select role_of
  down_reads k x y ts us rest r c b = rw (r, c, b)

  pub climb_stops : (least m : ℕ) (left : Expr) (ts : Tokens) → binds (next ts) < least → climb E least m left ts ≡ Some (left, ts)
  unfolding climb
  climb_stops least zero left ts h = refl
  climb_stops least (suc m) left ts h = rw (lt-ltb (binds (next ts)) least h)

  pub climb_steps : (least m : ℕ) (left right : Expr) (op : Token) (us rest : Tokens) → least ≤ binds (word_of op)
      → E (binds (word_of op) + 1) us ≡ Some (right, rest) → climb E least (suc m) left (op ∷ us) ≡ climb E least m (e.Binary op left right) rest
  unfolding climb
  climb_steps least m left right op us rest h r = rw (le-ltb (binds (word_of op)) least h, r)

  pub list_stops : (m : ℕ) (found : List Expr) (ts : Tokens) → next ts ≢ word.Comma → list_from E m found ts ≡ Some (found, ts)
  unfolding list_from same_word
  list_stops zero found ts h = refl
  list_stops (suc m) found ts h = rw (false_same the_type (search rules) (next ts) word.Comma h)

  pub list_steps : (m : ℕ) (found : List Expr) (k : Token) (y : Expr) (us rest : Tokens) → word_of k ≡ word.Comma → E 0 us ≡ Some (y, rest)
      → list_from E (suc m) found (k ∷ us) ≡ list_from E m (found ++ y ∷ []) rest
  unfolding list_from
  list_steps m found k y us rest h r = rw (h, same_refl word.Comma, r)

  pub joined_begins : (least : ℕ) (x : Expr) (ts rest : Tokens) → prefix E ts ≡ Some (x, rest) → joined E least ts ≡ climb E least (length rest) x rest
  unfolding joined
  joined_begins least x ts rest r = rw r

  pub list_begins : (x : Expr) (ts rest : Tokens) → E 0 ts ≡ Some (x, rest) → list E ts ≡ list_from E (length rest) (x ∷ []) rest
  unfolding list list_after
  list_begins x ts rest r = rw r

  pub list_goes_on : (x : Expr) (rest : Tokens) → list_after E x rest ≡ list_from E (length rest) (x ∷ []) rest
  unfolding list_after
  list_goes_on x rest = refl

  pub unary_reads : (op : Token) (x : Expr) (us rest : Tokens) → is_unary (word_of op) ≡ true → E 12 us ≡ Some (x, rest) → prefix E (op ∷ us) ≡ Some (e.Unary op x, rest)
  unfolding prefix
  unary_reads op x us rest u r = rw (u, r)

  pub choice_reads : (c a b : Expr) (q k : Token) (us vs rest : Tokens) → word_of q ≡ word.Question → E 0 us ≡ Some (a, k ∷ vs) → word_of k ≡ word.Colon
      → E 0 vs ≡ Some (b, rest) → choice E c (q ∷ us) ≡ Some (e.Choice c a b, rest)
  unfolding choice choose role_of
  choice_reads c a b q k us vs rest h r j s = rw (h, r, j, same_refl word.Colon, s)

  pub choice_skips : (c : Expr) (rest : Tokens) → next rest ≢ word.Question → choice E c rest ≡ Some (c, rest)
  unfolding choice
  choice_skips c rest h = choice_ends E c (next rest) rest h

pub expr_zero : (f : ℕ) (ts us : Tokens) (c : Expr) → joined (expr f) 1 ts ≡ Some (c, us) → expr (suc f) 0 ts ≡ choice (expr f) c us
unfolding expr
expr_zero f ts us c h = rw h

pub expr_more : (f n : ℕ) (ts : Tokens) → expr (suc f) (suc n) ts ≡ joined (expr f) (suc n) ts
unfolding expr
expr_more f n ts = refl

-- the first token of a primary is no operator
pub prefix_primary : (E : ℕ → Parser Expr) (ts : Tokens) → is_unary (next ts) ≡ false → prefix E ts ≡ primary E ts
unfolding prefix
prefix_primary E ts h = rw h
