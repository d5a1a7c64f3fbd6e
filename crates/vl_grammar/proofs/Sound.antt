-- What is read is spelled.
use Rattle.std.proofs.Common.{◌≡◌, ℕ, zero, suc, ◌+◌, ◌<◌, ◌≤◌, Bool, true, false, if◌then◌else◌, List, [], ◌∷◌, ◌++◌, length, Some, None, nat_lt, refl, ap, sym, ◌∙◌, subst, rules, arith}
use Rattle.std.proofs.lemmas.Bool.{ltb-true, ltb-false}
use Rattle.std.proofs.Common.{add-one}
use denote.Enum.Bare.{same_true}
use Rattle.vl_tree.specs.contracts.words.Word.{the_type}
use Rattle.vl_tree.specs.declared.tokens.Token.{Token}
use Rattle.vl_tree.specs.declared.words.Word.{Word}
use Rattle.vl_tree.specs.declared.words.Word.TheVariants as word
use Rattle.vl_tree.specs.declared.expressions.Expr.{Expr}
use Rattle.vl_tree.specs.declared.expressions.Expr.TheVariants as e
use Rattle.vl_tree.specs.declared.expressions.Select.{Select}
use Rattle.vl_tree.specs.declared.expressions.Select.TheVariants as s
use Rattle.vl_tree.specs.Words.{word_of, next, same_word}
use Rattle.vl_grammar.specs.declared.roles.Role.{Role}
use Rattle.vl_grammar.specs.declared.roles.Role.TheVariants as role
use Rattle.vl_grammar.specs.Roles.{role_of, binds, is_unary}
use Rattle.vl_grammar.specs.Read.{Tokens, Outcome, Parser, and_then, token, expect, list_from, list_after, list, grouped, call, system, bound, select_by, select, named_by, named, repeated, concat, braced_by, braced, primary_by, primary, prefix, climb, joined, choose, choice_by, choice, expr}
use Rattle.vl_grammar.specs.Spells as g
use Rattle.vl_grammar.specs.Spells.{Whole, Joined, alone, binary, Prefix, unary, itself, Primary, Listed, one, more, Selected}
use Rattle.vl_grammar.proofs.Shrinks.{joined_shrinks}
use Rattle.vl_grammar.proofs.RoleWords.{is_name, is_system, is_left_paren, is_left_bracket, is_right_bracket, is_left_brace, is_colon, is_plus_colon, is_minus_colon, is_question, binds_small}

record Split {A B : Type 0} (o : Outcome A) (f : A → Parser B) (y : B × Tokens) : Type 0 where
  value : A
  behind : Tokens
  was : o ≡ Some (value, behind)
  goes : f value behind ≡ Some y

split : {A B : Type 0} (o : Outcome A) (f : A → Parser B) (y : B × Tokens) → and_then o f ≡ Some y → Split o f y
split (Some p) f y h = record { value = p.0; behind = p.1; was = refl; goes = h }
split None f y h = cc

abbrev at_some : {A : Type 0} → (A → Tokens → Type 0) → Outcome A → Type 0
at_some P (Some p) = P p.0 p.1
at_some P None = Unit {0}

abbrev got : {A : Type 0} → A → Tokens → Outcome A
got x us = Some (x, us)

carry : {A : Type 0} (P : A → Tokens → Type 0) (x t : A) (us rest : Tokens) → got x us ≡ got t rest → P x us → P t rest
carry P x t us rest h p = subst (at_some P) h p

token_ok : (ts us : Tokens) (t : Token) → token ts ≡ got t us → ts ≡ t ∷ us
token_ok [] us t h = cc
token_ok (a ∷ ts) us t h = carry (λ t us. a ∷ ts ≡ t ∷ us) a t ts us h refl

record Expected (w : Word) (ts us : Tokens) (t : Token) : Type 0 where
  is : ts ≡ t ∷ us
  word_is : word_of t ≡ w

same_ok : (a b : Word) → same_word a b ≡ true → a ≡ b
unfolding same_word
same_ok a b h = same_true the_type (search rules) a b h

expected_by : (w : Word) (a t : Token) (ts us : Tokens) (b : Bool) → same_word (word_of a) w ≡ b → (if b then got a ts else None) ≡ got t us → Expected w (a ∷ ts) us t
expected_by w a t ts us true is h = carry (λ t us. Expected w (a ∷ ts) us t) a t ts us h (record { is = refl; word_is = same_ok (word_of a) w is })
expected_by w a t ts us false is h = cc

expect_ok : (w : Word) (ts us : Tokens) (t : Token) → expect w ts ≡ got t us → Expected w ts us t
expect_ok w [] us t h = cc
expect_ok w (a ∷ ts) us t h = expected_by w a t ts us (same_word (word_of a) w) refl h

-- the word that was seen is that of the token that was taken
taken : (w : Word) (ts us : Tokens) (t : Token) → next ts ≡ w → token ts ≡ got t us → Expected w ts us t
taken w ts us t h k = let is = token_ok ts us t k in record { is = is; word_is = sym (ap next is) ∙ h }

-- what the inner parser gives
abbrev pub At : ℕ → Expr → Tokens → Tokens → Type 0
At zero t ts rest = Whole t ts rest
At (suc n) t ts rest = Joined (suc n) t ts rest × (binds (next rest) < suc n)

snoc : {xs : List Expr} {ts ws : Tokens} → Listed xs ts ws → (k : Token) (us rest : Tokens) (y : Expr) → ws ≡ k ∷ us → word_of k ≡ word.Comma → Whole y us rest → Listed (xs ++ y ∷ []) ts rest
snoc (one {x = x} {ts = ts} d) k us rest y is h w = more (subst (λ b. Whole x ts b) is d) h (one w)
snoc (more d j ds) k us rest y is h w = more d j (snoc ds k us rest y is h w)

-- a level above all operators has only prefixes
tightest : {n : ℕ} {t : Expr} {ts rest : Tokens} → Joined n t ts rest → 12 ≤ n → Prefix t ts rest
tightest (alone d) h = d
tightest (binary {op = op} pos low at l r) h = absurd (omega (arith, binds_small (word_of op)))

ended : (us : Tokens) → length us ≤ 0 → binds (next us) ≡ 0
unfolding binds
ended [] h = refl
ended (u ∷ us) h = absurd (omega arith)

record Pair (w : Word) (x y : Expr) (ts rest : Tokens) : Type 0 where
  sign : Token
  middle : Tokens
  close : Token
  left : Whole x ts (sign ∷ middle)
  sign_is : word_of sign ≡ w
  right : Whole y middle (close ∷ rest)
  close_is : word_of close ≡ word.RightBracket

module _ (E : ℕ → Parser Expr) (H : (n : ℕ) (ts rest : Tokens) (t : Expr) → E n ts ≡ got t rest → At n t ts rest) where
  -- an expression and a token behind it
  record Behind (w : Word) (x : Expr) (ts us : Tokens) : Type 0 where
    mark : Token
    whole : Whole x ts (mark ∷ us)
    word_is : word_of mark ≡ w

  behind : (w : Word) (x : Expr) (t : Token) (ts us rest : Tokens) → E 0 ts ≡ got x us → expect w us ≡ got t rest → Behind w x ts rest
  behind w x t ts us rest r h =
      let k = expect_ok w us rest t h in
      record { mark = t; whole = subst (λ b. Whole x ts b) k.is (H 0 ts us x r); word_is = k.word_is }

  seen_behind : (w : Word) (x : Expr) (t : Token) (ts us rest : Tokens) → E 0 ts ≡ got x us → next us ≡ w → token us ≡ got t rest → Behind w x ts rest
  seen_behind w x t ts us rest r n h =
      let k = taken w us rest t n h in
      record { mark = t; whole = subst (λ b. Whole x ts b) k.is (H 0 ts us x r); word_is = k.word_is }

  list_turn : (m : ℕ) (found xs : List Expr) (ts us rest : Tokens)
      → ((found : List Expr) (us : Tokens) → Listed found ts us → list_from E m found us ≡ got xs rest → Listed xs ts rest)
      → Listed found ts us → (b : Bool) → same_word (next us) word.Comma ≡ b
      → if◌then◌else◌ {A = Parser (List Expr)} b (λ us. and_then (token us) (λ _ vs. and_then (E 0 vs) (λ x. list_from E m (found ++ x ∷ [])))) (λ us. got found us) us ≡ got xs rest → Listed xs ts rest
  list_turn m found xs ts us rest go d true is h =
      let i = split (token us) _ _ h in
      let k = taken word.Comma us i.behind i.value (same_ok (next us) word.Comma is) i.was in
      let j = split (E 0 i.behind) _ _ i.goes in
      go (found ++ j.value ∷ []) j.behind (snoc d i.value i.behind j.behind j.value k.is k.word_is (H 0 i.behind j.behind j.value j.was)) j.goes
  list_turn m found xs ts us rest go d false is h = carry (λ xs rest. Listed xs ts rest) found xs us rest h d

  list_from_sound : (m : ℕ) (found xs : List Expr) (ts us rest : Tokens) → Listed found ts us → list_from E m found us ≡ got xs rest → Listed xs ts rest
  unfolding list_from
  list_from_sound zero found xs ts us rest d h = carry (λ xs rest. Listed xs ts rest) found xs us rest h d
  list_from_sound (suc m) found xs ts us rest d h =
      list_turn m found xs ts us rest (λ found us. list_from_sound m found xs ts us rest) d (same_word (next us) word.Comma) refl h

  list_after_sound : (x : Expr) (xs : List Expr) (ts us rest : Tokens) → Whole x ts us → list_after E x us ≡ got xs rest → Listed xs ts rest
  unfolding list_after
  list_after_sound x xs ts us rest d h = list_from_sound (length us) (x ∷ []) xs ts us rest (one d) h

  pub list_sound : (xs : List Expr) (ts rest : Tokens) → list E ts ≡ got xs rest → Listed xs ts rest
  unfolding list
  list_sound xs ts rest h = let i = split (E 0 ts) _ _ h in list_after_sound i.value xs ts i.behind rest (H 0 ts i.behind i.value i.was) i.goes

  -- a list and a token behind it
  list_behind : (w : Word) (xs : List Expr) (t : Token) (ts us rest : Tokens) → Listed xs ts us → Expected w us rest t → Listed xs ts (t ∷ rest)
  list_behind w xs t ts us rest d k = subst (λ b. Listed xs ts b) k.is d

  grouped_sound : (a : Token) (t : Expr) (ts rest : Tokens) → word_of a ≡ word.LeftParen → grouped E ts ≡ got t rest → Primary t (a ∷ ts) rest
  unfolding grouped
  grouped_sound a t ts rest ha h =
      let i = split (E 0 ts) _ _ h in
      let k = split (expect word.RightParen i.behind) _ _ i.goes in
      let b = behind word.RightParen i.value k.value ts i.behind k.behind i.was k.was in
      carry (λ t rest. Primary t (a ∷ ts) rest) (e.Group i.value) t k.behind rest k.goes (g.group ha b.whole b.word_is)

  call_sound : (n a : Token) (t : Expr) (ts rest : Tokens) → word_of n ≡ word.Name → word_of a ≡ word.LeftParen → call E n ts ≡ got t rest → Primary t (n ∷ a ∷ ts) rest
  unfolding call
  call_sound n a t ts rest hn ha h =
      let i = split (list E ts) _ _ h in
      let k = split (expect word.RightParen i.behind) _ _ i.goes in
      let x = expect_ok word.RightParen i.behind k.behind k.value k.was in
      carry (λ t rest. Primary t (n ∷ a ∷ ts) rest) (e.Call n i.value) t k.behind rest k.goes
      (g.call hn ha (list_behind word.RightParen i.value k.value ts i.behind k.behind (list_sound i.value ts i.behind i.was) x) x.word_is)

  system_sound : (n : Token) (t : Expr) (ts rest : Tokens) → word_of n ≡ word.System → system E n ts ≡ got t rest → Primary t (n ∷ ts) rest
  unfolding system
  system_sound n t ts rest hn h =
      let o = split (expect word.LeftParen ts) _ _ h in
      let a = expect_ok word.LeftParen ts o.behind o.value o.was in
      let i = split (E 0 o.behind) _ _ o.goes in
      let k = split (expect word.RightParen i.behind) _ _ i.goes in
      let b = behind word.RightParen i.value k.value o.behind i.behind k.behind i.was k.was in
      carry (λ t rest. Primary t (n ∷ ts) rest) (e.System n i.value) t k.behind rest k.goes
      (subst (λ z. Primary (e.System n i.value) (n ∷ z) k.behind) (sym a.is) (g.system hn a.word_is b.whole b.word_is))

  -- a sign, and an expression and a bracket behind it
  record Bounded (t : Expr) (k : Token) (us rest : Tokens) : Type 0 where
    close : Token
    whole : Whole t us (close ∷ rest)
    word_is : word_of close ≡ word.RightBracket

  bound_sound : (t : Expr) (k : Token) (us rest : Tokens) → bound E (k ∷ us) ≡ got t rest → Bounded t k us rest
  unfolding bound
  bound_sound t k us rest h =
      let i = split (E 0 us) _ _ h in
      let j = split (expect word.RightBracket i.behind) _ _ i.goes in
      let b = behind word.RightBracket i.value j.value us i.behind j.behind i.was j.was in
      carry (λ t rest. Bounded t k us rest) i.value t j.behind rest j.goes (record { close = b.mark; whole = b.whole; word_is = b.word_is })

  pairs : (w : Word) (x y : Expr) (ts us rest : Tokens) → E 0 ts ≡ got x us → next us ≡ w → bound E us ≡ got y rest → Pair w x y ts rest
  unfolding bound
  pairs w x y ts [] rest r n h = cc
  pairs w x y ts (k ∷ us) rest r n h =
      let b = bound_sound y k us rest h in
      record { sign = k; middle = us; close = b.close; left = H 0 ts (k ∷ us) x r; sign_is = n; right = b.whole; close_is = b.word_is }

  select_by_sound : (x : Expr) (w : Role) (t : Select) (ts us rest : Tokens) → E 0 ts ≡ got x us → role_of (next us) ≡ w → select_by E x w us ≡ got t rest → Selected t ts rest
  select_by_sound x role.RightBracket t ts us rest r n h =
      let i = split (token us) _ _ h in
      let b = seen_behind word.RightBracket x i.value ts us i.behind r (is_right_bracket (next us) n) i.was in
      carry (λ t rest. Selected t ts rest) (s.Index x) t i.behind rest i.goes (g.index b.whole b.word_is)
  select_by_sound x role.Colon t ts us rest r n h =
      let i = split (bound E us) _ _ h in
      let b = pairs word.Colon x i.value ts us i.behind r (is_colon (next us) n) i.was in
      carry (λ t rest. Selected t ts rest) (s.Range x i.value) t i.behind rest i.goes (g.range b.left b.sign_is b.right b.close_is)
  select_by_sound x role.PlusColon t ts us rest r n h =
      let i = split (bound E us) _ _ h in
      let b = pairs word.PlusColon x i.value ts us i.behind r (is_plus_colon (next us) n) i.was in
      carry (λ t rest. Selected t ts rest) (s.Up x i.value) t i.behind rest i.goes (g.up b.left b.sign_is b.right b.close_is)
  select_by_sound x role.MinusColon t ts us rest r n h =
      let i = split (bound E us) _ _ h in
      let b = pairs word.MinusColon x i.value ts us i.behind r (is_minus_colon (next us) n) i.was in
      carry (λ t rest. Selected t ts rest) (s.Down x i.value) t i.behind rest i.goes (g.down b.left b.sign_is b.right b.close_is)
  select_by_sound x _ t ts us rest r n h = cc

  pub select_sound : (t : Select) (ts rest : Tokens) → select E ts ≡ got t rest → Selected t ts rest
  unfolding select
  select_sound t ts rest h = let i = split (E 0 ts) _ _ h in select_by_sound i.value (role_of (next i.behind)) t ts i.behind rest i.was refl i.goes

  named_by_sound : (n : Token) (w : Role) (t : Expr) (ts rest : Tokens) → word_of n ≡ word.Name → role_of (next ts) ≡ w → named_by E n w ts ≡ got t rest → Primary t (n ∷ ts) rest
  named_by_sound n role.LeftParen t ts rest hn hw h =
      let i = split (token ts) _ _ h in
      let k = taken word.LeftParen ts i.behind i.value (is_left_paren (next ts) hw) i.was in
      subst (λ z. Primary t (n ∷ z) rest) (sym k.is) (call_sound n i.value t i.behind rest hn k.word_is i.goes)
  named_by_sound n role.LeftBracket t ts rest hn hw h =
      let o = split (and_then (token ts) (λ _. select E)) _ _ h in
      let i = split (token ts) _ _ o.was in
      let k = taken word.LeftBracket ts i.behind i.value (is_left_bracket (next ts) hw) i.was in
      carry (λ t rest. Primary t (n ∷ ts) rest) (e.Name n (o.value ∷ [])) t o.behind rest o.goes
      (subst (λ z. Primary (e.Name n (o.value ∷ [])) (n ∷ z) o.behind) (sym k.is) (g.selected hn k.word_is (select_sound o.value i.behind o.behind i.goes)))
  named_by_sound n _ t ts rest hn hw h = carry (λ t rest. Primary t (n ∷ ts) rest) (e.Name n []) t ts rest h (g.name hn)

  repeated_sound : (a b : Token) (n t : Expr) (ts us rest : Tokens) → word_of a ≡ word.LeftBrace → Whole n ts (b ∷ us) → word_of b ≡ word.LeftBrace
      → repeated E n us ≡ got t rest → Primary t (a ∷ ts) rest
  unfolding repeated
  repeated_sound a b n t ts us rest ha d hb h =
      let i = split (list E us) _ _ h in
      let j = split (expect word.RightBrace i.behind) _ _ i.goes in
      let y = expect_ok word.RightBrace i.behind j.behind j.value j.was in
      let k = split (expect word.RightBrace j.behind) _ _ j.goes in
      let z = expect_ok word.RightBrace j.behind k.behind k.value k.was in
      let l = list_behind word.RightBrace i.value j.value us i.behind j.behind (list_sound i.value us i.behind i.was) y in
      carry (λ t rest. Primary t (a ∷ ts) rest) (e.Repeat n i.value) t k.behind rest k.goes
      (g.repeat ha d hb (subst (λ q. Listed i.value us (j.value ∷ q)) z.is l) y.word_is z.word_is)

  concat_sound : (a : Token) (x t : Expr) (ts us rest : Tokens) → word_of a ≡ word.LeftBrace → Whole x ts us → concat E x us ≡ got t rest → Primary t (a ∷ ts) rest
  unfolding concat
  concat_sound a x t ts us rest ha d h =
      let i = split (list_after E x us) _ _ h in
      let j = split (expect word.RightBrace i.behind) _ _ i.goes in
      let y = expect_ok word.RightBrace i.behind j.behind j.value j.was in
      let l = list_behind word.RightBrace i.value j.value ts i.behind j.behind (list_after_sound x i.value ts us i.behind d i.was) y in
      carry (λ t rest. Primary t (a ∷ ts) rest) (e.Concat i.value) t j.behind rest j.goes (g.concat ha l y.word_is)

  braced_by_sound : (a : Token) (x : Expr) (w : Role) (t : Expr) (ts us rest : Tokens) → word_of a ≡ word.LeftBrace → E 0 ts ≡ got x us → role_of (next us) ≡ w
      → braced_by E x w us ≡ got t rest → Primary t (a ∷ ts) rest
  braced_by_sound a x role.LeftBrace t ts us rest ha r hw h =
      let i = split (token us) _ _ h in
      let b = seen_behind word.LeftBrace x i.value ts us i.behind r (is_left_brace (next us) hw) i.was in
      repeated_sound a b.mark x t ts i.behind rest ha b.whole b.word_is i.goes
  braced_by_sound a x _ t ts us rest ha r hw h = concat_sound a x t ts us rest ha (H 0 ts us x r) h

  braced_sound : (a : Token) (t : Expr) (ts rest : Tokens) → word_of a ≡ word.LeftBrace → braced E ts ≡ got t rest → Primary t (a ∷ ts) rest
  unfolding braced
  braced_sound a t ts rest ha h = let i = split (E 0 ts) _ _ h in braced_by_sound a i.value (role_of (next i.behind)) t ts i.behind rest ha i.was refl i.goes

  named_sound : (n : Token) (t : Expr) (ts rest : Tokens) → word_of n ≡ word.Name → named E n ts ≡ got t rest → Primary t (n ∷ ts) rest
  unfolding named
  named_sound n t ts rest hn h = named_by_sound n (role_of (next ts)) t ts rest hn refl h

  number_sound : (w : Word) (a : Token) (ts : Tokens) → word_of a ≡ w → role_of w ≡ role.Number → Primary (e.Number a) (a ∷ ts) ts
  unfolding role_of
  number_sound word.Number a ts h r = g.number h
  number_sound word.FreeNumber a ts h r = g.free_number h
  number_sound _ a ts h r = cc

  primary_by_sound : (w : Role) (a : Token) (t : Expr) (ts rest : Tokens) → role_of (word_of a) ≡ w → primary_by E w a ts ≡ got t rest → Primary t (a ∷ ts) rest
  primary_by_sound role.Number a t ts rest ha h = carry (λ t rest. Primary t (a ∷ ts) rest) (e.Number a) t ts rest h (number_sound (word_of a) a ts refl ha)
  primary_by_sound role.Name a t ts rest ha h = named_sound a t ts rest (is_name (word_of a) ha) h
  primary_by_sound role.System a t ts rest ha h = system_sound a t ts rest (is_system (word_of a) ha) h
  primary_by_sound role.LeftParen a t ts rest ha h = grouped_sound a t ts rest (is_left_paren (word_of a) ha) h
  primary_by_sound role.LeftBrace a t ts rest ha h = braced_sound a t ts rest (is_left_brace (word_of a) ha) h
  primary_by_sound _ a t ts rest ha h = cc

  primary_sound : (t : Expr) (ts rest : Tokens) → primary E ts ≡ got t rest → Primary t ts rest
  unfolding primary
  primary_sound t ts rest h =
      let i = split (token ts) _ _ h in
      subst (λ z. Primary t z rest) (sym (token_ok ts i.behind i.value i.was)) (primary_by_sound (role_of (word_of i.value)) i.value t i.behind rest refl i.goes)

  prefix_by_sound : (t : Expr) (ts rest : Tokens) (b : Bool) → is_unary (next ts) ≡ b
      → if◌then◌else◌ {A = Parser Expr} b (λ ts. and_then (token ts) (λ op us. and_then (E 12 us) (λ x us. got (e.Unary op x) us))) (primary E) ts ≡ got t rest → Prefix t ts rest
  prefix_by_sound t ts rest true is h =
      let i = split (token ts) _ _ h in
      let k = token_ok ts i.behind i.value i.was in
      let j = split (E 12 i.behind) _ _ i.goes in
      carry (λ t rest. Prefix t ts rest) (e.Unary i.value j.value) t j.behind rest j.goes
      (subst (λ z. Prefix (e.Unary i.value j.value) z j.behind) (sym k)
      (unary (sym (ap (λ z. is_unary (next z)) k) ∙ is) (tightest (H 12 i.behind j.behind j.value j.was).0 (omega arith))))
  prefix_by_sound t ts rest false is h = itself (primary_sound t ts rest h)

  prefix_sound : (t : Expr) (ts rest : Tokens) → prefix E ts ≡ got t rest → Prefix t ts rest
  unfolding prefix
  prefix_sound t ts rest h = prefix_by_sound t ts rest (is_unary (next ts)) refl h

  -- what was read so far is of the level, and of the level of the operator behind it
  record Ready (least : ℕ) (left : Expr) (ts us : Tokens) : Type 0 where
    own : Joined least left ts us
    wider : 0 < binds (next us) → Joined (binds (next us)) left ts us

  more_ready : (least : ℕ) (left right : Expr) (op : Token) (ts us vs rest : Tokens) → 0 < least → least ≤ binds (word_of op) → us ≡ op ∷ vs
      → Ready least left ts us → E (suc (binds (word_of op))) vs ≡ got right rest → Ready least (e.Binary op left right) ts rest × (length rest < length vs)
  more_ready least left right op ts us vs rest pos low is ready read =
      let at : binds (next us) ≡ binds (word_of op) = ap (λ z. binds (next z)) is in
      let own = subst (λ n. Joined n left ts us) at (ready.wider (omega arith)) in
      let l = subst (λ z. Joined (binds (word_of op)) left ts z) is own in
      let r = H (suc (binds (word_of op))) vs rest right read in
      (record { own = binary pos low refl l r.0; wider = λ p. binary p (omega (arith, r.1)) refl l r.0 }, joined_shrinks r.0)

  climb_turn : (least m : ℕ) (left t : Expr) (ts us rest : Tokens) → 0 < least → length us ≤ suc m
      → ((left : Expr) (us : Tokens) → Ready least left ts us → length us ≤ m → climb E least m left us ≡ got t rest → Joined least t ts rest × (binds (next rest) < least))
      → Ready least left ts us → (b : Bool) → nat_lt (binds (next us)) least ≡ b
      → if◌then◌else◌ {A = Parser Expr} b (λ us. got left us)
      (λ vs. and_then (token vs) (λ op vs. and_then (E (binds (next us) + 1) vs) (λ right. climb E least m (e.Binary op left right)))) us ≡ got t rest
      → Joined least t ts rest × (binds (next rest) < least)
  climb_turn least m left t ts us rest pos le go ready true is h =
      carry (λ t rest. Joined least t ts rest × (binds (next rest) < least)) left t us rest h (ready.own, ltb-true (binds (next us)) least is)
  climb_turn least m left t ts us rest pos le go ready false is h =
      let i = split (token us) _ _ h in
      let k = token_ok us i.behind i.value i.was in
      let j = split (E (binds (next us) + 1) i.behind) _ _ i.goes in
      let level : binds (next us) + 1 ≡ suc (binds (word_of i.value)) = ap (λ z. binds (next z) + 1) k ∙ add-one (binds (word_of i.value)) in
      let low : least ≤ binds (word_of i.value) = omega (arith, ltb-false (binds (next us)) least is, level) in
      let r = more_ready least left j.value i.value ts us i.behind j.behind pos low k ready (subst (λ n. E n i.behind ≡ got j.value j.behind) level j.was) in
      go (e.Binary i.value left j.value) j.behind r.0 (omega (arith, r.1, ap length k)) j.goes

  climb_sound : (least m : ℕ) (left t : Expr) (ts us rest : Tokens) → 0 < least → Ready least left ts us → length us ≤ m → climb E least m left us ≡ got t rest
      → Joined least t ts rest × (binds (next rest) < least)
  unfolding climb
  climb_sound least zero left t ts us rest pos ready le h =
      carry (λ t rest. Joined least t ts rest × (binds (next rest) < least)) left t us rest h (ready.own, omega (arith, ended us le))
  climb_sound least (suc m) left t ts us rest pos ready le h =
      climb_turn least m left t ts us rest pos le (λ left us. climb_sound least m left t ts us rest pos) ready (nat_lt (binds (next us)) least) refl h

  joined_sound : (least : ℕ) (t : Expr) (ts rest : Tokens) → 0 < least → joined E least ts ≡ got t rest → Joined least t ts rest × (binds (next rest) < least)
  unfolding joined
  joined_sound least t ts rest pos h =
      let i = split (prefix E ts) _ _ h in
      let d = prefix_sound i.value ts i.behind i.was in
      climb_sound least (length i.behind) i.value t ts i.behind rest pos (record { own = alone d; wider = λ p. alone d }) (omega arith) i.goes

  choose_sound : (c t : Expr) (q : Token) (ts us rest : Tokens) → Joined 1 c ts (q ∷ us) → word_of q ≡ word.Question → choose E c us ≡ got t rest → Whole t ts rest
  unfolding choose
  choose_sound c t q ts us rest d hq h =
      let i = split (E 0 us) _ _ h in
      let k = split (expect word.Colon i.behind) _ _ i.goes in
      let a = behind word.Colon i.value k.value us i.behind k.behind i.was k.was in
      let j = split (E 0 k.behind) _ _ k.goes in
      carry (λ t rest. Whole t ts rest) (e.Choice c i.value j.value) t j.behind rest j.goes
      (g.choice d hq a.whole a.word_is (H 0 k.behind j.behind j.value j.was))

  choice_by_sound : (c t : Expr) (w : Role) (ts us rest : Tokens) → Joined 1 c ts us → role_of (next us) ≡ w → choice_by E c w us ≡ got t rest → Whole t ts rest
  choice_by_sound c t role.Question ts us rest d hw h =
      let i = split (token us) _ _ h in
      let k = taken word.Question us i.behind i.value (is_question (next us) hw) i.was in
      choose_sound c t i.value ts i.behind rest (subst (λ z. Joined 1 c ts z) k.is d) k.word_is i.goes
  choice_by_sound c t _ ts us rest d hw h = carry (λ t rest. Whole t ts rest) c t us rest h (g.plain d)

  whole_sound : (t : Expr) (ts rest : Tokens) → and_then (joined E 1 ts) (choice E) ≡ got t rest → Whole t ts rest
  unfolding choice
  whole_sound t ts rest h =
      let i = split (joined E 1 ts) _ _ h in
      choice_by_sound i.value t (role_of (next i.behind)) ts i.behind rest (joined_sound 1 i.value ts i.behind (omega arith) i.was).0 refl i.goes

pub expr_sound : (f n : ℕ) (ts rest : Tokens) (t : Expr) → expr f n ts ≡ Some (t, rest) → At n t ts rest
unfolding expr
expr_sound zero n ts rest t h = cc
expr_sound (suc f) zero ts rest t h = whole_sound (expr f) (expr_sound f) t ts rest h
expr_sound (suc f) (suc n) ts rest t h = joined_sound (expr f) (expr_sound f) (suc n) t ts rest (omega arith) h

pub spelled : (f : ℕ) (t : Expr) (ts rest : Tokens) → expr f 0 ts ≡ Some (t, rest) → Whole t ts rest
spelled f t ts rest h = expr_sound f 0 ts rest t h
