-- What a tree spells is read again, as that tree.
use Rattle.std.proofs.Common.{◌≡◌, ◌≢◌, ℕ, zero, suc, ◌+◌, ◌<◌, ◌≤◌, false, List, [], ◌∷◌, ◌++◌, length, Option, None, Some, refl, ap, sym, ◌∙◌, append_assoc, arith}
use Rattle.vl_tree.specs.declared.tokens.Token.{Token}
use Rattle.vl_tree.specs.declared.words.Word.{Word}
use Rattle.vl_tree.specs.declared.words.Word.TheVariants as word
use Rattle.vl_tree.specs.declared.expressions.Expr.{Expr}
use Rattle.vl_tree.specs.declared.expressions.Expr.TheVariants as e
use Rattle.vl_tree.specs.declared.expressions.Select.{Select}
use Rattle.vl_tree.specs.Words.{word_of, next}
use Rattle.vl_grammar.specs.Roles.{binds, is_unary}
use Rattle.vl_grammar.proofs.RoleWords.{binds_small}
use Rattle.vl_grammar.specs.Read.{Tokens, Parser, list_from, list, select, primary, prefix, climb, joined, expr}
use Rattle.vl_grammar.specs.Spells.{Bare, Ends, Whole, plain, choice, Joined, alone, binary, Prefix, unary, itself, Primary, number, free_number, name, selected, call, system, group, concat, repeat, Listed, one, more, Selected, index, range, up, down}
use Rattle.vl_grammar.proofs.Shrinks.{whole_shrinks, joined_shrinks}
use Rattle.vl_grammar.proofs.Rules as r

-- what may come behind an expression of level n
pub record Follows (n : ℕ) (w : Word) : Type 0 where
  pub tight : binds w ≤ n
  pub bare : Bare w

-- The reader has read t, and goes on at rest.
pub record Reached (f least : ℕ) (ts : Tokens) (t : Expr) (rest : Tokens) : Type 0 where
  pub turns : ℕ
  pub enough : length rest ≤ turns
  pub same : joined (expr f) least ts ≡ climb (expr f) least turns t rest

pub record Begun (E : ℕ → Parser Expr) (xs : List Expr) (ts rest : Tokens) : Type 0 where
  pub first : Expr
  pub behind : Tokens
  pub reads : E 0 ts ≡ Some (first, behind)
  pub no_brace : next behind ≢ word.LeftBrace
  pub shorter : length behind ≤ length ts
  pub goes_on : (found : List Expr) (m : ℕ) → length behind ≤ m → list_from E m (found ++ first ∷ []) behind ≡ Some (found ++ xs, rest)

-- what may come behind a list
pub record Closes (w : Word) : Type 0 where
  pub ends : Ends w
  pub no_comma : w ≢ word.Comma
  pub no_brace : w ≢ word.LeftBrace

bare_at : (w v : Word) → w ≡ v → Bare v → Bare w
bare_at w v e b = rw e b

ends_at : (w v : Word) → w ≡ v → Ends v → Ends w
ends_at w v e b = rw e b

closes_at : (w v : Word) → w ≡ v → Closes v → Closes w
closes_at w v e b = rw e b

paren : Ends word.RightParen
unfolding binds
paren = record { joins = refl; chooses = λ h. cc; bare = record { selects = λ h. cc; calls = λ h. cc } }

bracket : Ends word.RightBracket
unfolding binds
bracket = record { joins = refl; chooses = λ h. cc; bare = record { selects = λ h. cc; calls = λ h. cc } }

brace : Ends word.RightBrace
unfolding binds
brace = record { joins = refl; chooses = λ h. cc; bare = record { selects = λ h. cc; calls = λ h. cc } }

opening : Ends word.LeftBrace
unfolding binds
opening = record { joins = refl; chooses = λ h. cc; bare = record { selects = λ h. cc; calls = λ h. cc } }

comma : Ends word.Comma
unfolding binds
comma = record { joins = refl; chooses = λ h. cc; bare = record { selects = λ h. cc; calls = λ h. cc } }

colon : Ends word.Colon
unfolding binds
colon = record { joins = refl; chooses = λ h. cc; bare = record { selects = λ h. cc; calls = λ h. cc } }

plus_colon : Ends word.PlusColon
unfolding binds
plus_colon = record { joins = refl; chooses = λ h. cc; bare = record { selects = λ h. cc; calls = λ h. cc } }

minus_colon : Ends word.MinusColon
unfolding binds
minus_colon = record { joins = refl; chooses = λ h. cc; bare = record { selects = λ h. cc; calls = λ h. cc } }

closes_paren : Closes word.RightParen
closes_paren = record { ends = paren; no_comma = λ h. cc; no_brace = λ h. cc }

closes_brace : Closes word.RightBrace
closes_brace = record { ends = brace; no_comma = λ h. cc; no_brace = λ h. cc }

question_loose : (w : Word) → w ≡ word.Question → binds w ≡ 0
unfolding binds
question_loose w h = rw h refl

question : Bare word.Question
question = record { selects = λ h. cc; calls = λ h. cc }

-- an operator begins no select and no call
bare_operator : (w : Word) → 0 < binds w → Bare w
unfolding binds
bare_operator word.LeftBracket h = absurd (omega arith)
bare_operator word.LeftParen h = absurd (omega arith)
bare_operator _ h = record { selects = λ h. cc; calls = λ h. cc }

comma_no_brace : (w : Word) → w ≡ word.Comma → w ≢ word.LeftBrace
comma_no_brace w h k = cc

-- one turn of the loop over operators
turned_by : (f least p : ℕ) (ts us rest : Tokens) (l x : Expr) (op : Token) (m : ℕ) → length (op ∷ us) ≤ m
    → joined (expr (suc f)) least ts ≡ climb (expr (suc f)) least m l (op ∷ us) → binds (word_of op) ≡ p → least ≤ p
    → length rest ≤ length us → expr (suc f) (suc p) us ≡ Some (x, rest) → Reached (suc f) least ts (e.Binary op l x) rest
turned_by f least p ts us rest l x op zero enough same at low shorter read = absurd (omega arith)
turned_by f least p ts us rest l x op (suc m) enough same at low shorter read =
    let next_level : binds (word_of op) + 1 ≡ suc p = omega arith in
    record {
      turns = m;
      enough = omega arith;
      same = same ∙ r.climb_steps (expr (suc f)) least m l x op us rest (omega arith) (ap (λ n. expr (suc f) n us) next_level ∙ read);
    }

turned : (f least p : ℕ) (ts us rest : Tokens) (l x : Expr) (op : Token) → Reached (suc f) least ts l (op ∷ us) → binds (word_of op) ≡ p → least ≤ p
    → length rest ≤ length us → expr (suc f) (suc p) us ≡ Some (x, rest) → Reached (suc f) least ts (e.Binary op l x) rest
turned f least p ts us rest l x op left at low shorter read = turned_by f least p ts us rest l x op left.turns left.enough left.same at low shorter read

pub whole_list : (E : ℕ → Parser Expr) (xs : List Expr) (ts rest : Tokens) → Begun E xs ts rest → list E ts ≡ Some (xs, rest)
whole_list E xs ts rest begun =
    r.list_begins E begun.first ts begun.behind begun.reads ∙ begun.goes_on [] (length begun.behind) (omega arith)

one_more_item : (E : ℕ → Parser Expr) (x : Expr) (ys : List Expr) (k : Token) (us rest : Tokens) → (begun : Begun E ys us rest) → word_of k ≡ word.Comma
    → (found : List Expr) (m : ℕ) → length (k ∷ us) ≤ m → list_from E m (found ++ x ∷ []) (k ∷ us) ≡ Some (found ++ x ∷ ys, rest)
one_more_item E x ys k us rest begun h found zero le = absurd (omega arith)
one_more_item E x ys k us rest begun h found (suc m) le =
    r.list_steps E m (found ++ x ∷ []) k begun.first us begun.behind h begun.reads
    ∙ begun.goes_on (found ++ x ∷ []) m (omega (arith, begun.shorter)) ∙ ap (λ zs. Some (zs, rest)) (append_assoc found (x ∷ []) ys)

-- the first token of a primary is no operator
primary_first : {t : Expr} {ts rest : Tokens} → Primary t ts rest → is_unary (next ts) ≡ false
unfolding is_unary
primary_first (number h) = rw h
primary_first (free_number h) = rw h
primary_first (name h) = rw h
primary_first (selected h k d) = rw h
primary_first (call h k d z) = rw h
primary_first (system h k d z) = rw h
primary_first (group h d z) = rw h
primary_first (concat h d z) = rw h
primary_first (repeat h n b d y z) = rw h

abbrev first_or : Expr → Option (Expr × Tokens) → Expr
first_or t (Some p) = p.0
first_or t None = t

mutual
  pub whole_again : {t : Expr} {ts rest : Tokens} → Whole t ts rest → (f : ℕ) → length ts ≤ f → Ends (next rest) → expr (suc f) 0 ts ≡ Some (t, rest)
  whole_again {t} {ts} {rest} (plain d) f le ends =
      let at = joined_again d f 1 (omega arith) (omega arith) le (record { tight = omega (arith, ends.joins); bare = ends.bare }) in
      r.expr_zero f ts rest t (at.same ∙ r.climb_stops (expr f) 1 at.turns t rest (omega (arith, ends.joins))) ∙ r.choice_skips (expr f) t rest ends.chooses
  whole_again (choice c q a k b) zero le ends = absurd (omega (arith, joined_shrinks c))
  whole_again (choice {c = c} {a = a} {b = b} {q = q} {k = k} {ts = ts} {us = us} {vs = vs} {rest = rest} dc hq da hk db) (suc f) le ends =
      let at = joined_again dc (suc f) 1 (omega arith) (omega arith) le
      (record { tight = omega (arith, question_loose (word_of q) hq); bare = bare_at (word_of q) word.Question hq question }) in
      let first = at.same ∙ r.climb_stops (expr (suc f)) 1 at.turns c (q ∷ us) (omega (arith, question_loose (word_of q) hq)) in
      r.expr_zero (suc f) ts (q ∷ us) c first ∙ r.choice_reads (expr (suc f)) c a b q k us vs rest hq
      (whole_again da f (omega (arith, joined_shrinks dc)) (ends_at (word_of k) word.Colon hk colon)) hk
      (whole_again db f (omega (arith, joined_shrinks dc, whole_shrinks da)) ends)

  pub joined_again : {n : ℕ} {t : Expr} {ts rest : Tokens} → Joined n t ts rest → (f least : ℕ) → 0 < least → least ≤ n → length ts ≤ f
      → Follows n (next rest) → Reached f least ts t rest
  joined_again {n} {t} {ts} {rest} (alone d) f least pos low le follows =
      record { turns = length rest; enough = omega arith; same = r.joined_begins (expr f) least t ts rest (prefix_again d f le follows.bare) }
  joined_again (binary pos' low' at l r) zero least pos low le follows = absurd (omega (arith, joined_shrinks l))
  joined_again (binary {n = n} {p = p} {l = l} {r = x} {op = op} {ts = ts} {us = us} {rest = rest} pos' low' at dl dr) (suc f) least pos low le follows =
      let left = joined_again dl (suc f) least pos (omega arith) le
      (record { tight = omega (arith, at); bare = bare_operator (word_of op) (omega (arith, at)) }) in
      let right = joined_again dr f (suc p) (omega arith) (omega arith) (omega (arith, joined_shrinks dl))
      (record { tight = omega (arith, follows.tight); bare = follows.bare }) in
      let read : expr (suc f) (suc p) us ≡ Some (x, rest) =
      r.expr_more f p us ∙ (right.same ∙ r.climb_stops (expr f) (suc p) right.turns x rest (omega (arith, follows.tight))) in
      turned f least p ts us rest l x op left at (omega arith) (omega (arith, joined_shrinks dr)) read

  pub prefix_again : {t : Expr} {ts rest : Tokens} → Prefix t ts rest → (f : ℕ) → length ts ≤ f → Bare (next rest) → prefix (expr f) ts ≡ Some (t, rest)
  prefix_again (unary u d) zero le bare = absurd (omega arith)
  prefix_again (unary {op = op} {x = x} {ts = ts} {rest = rest} u d) (suc f) le bare =
      r.unary_reads (expr (suc f)) op x ts rest u
      (r.expr_more f 11 ts ∙ (r.joined_begins (expr f) 12 x ts rest (prefix_again d f (omega arith) bare)
      ∙ r.climb_stops (expr f) 12 (length rest) x rest (omega (arith, binds_small (next rest)))))
  prefix_again {t} {ts} {rest} (itself d) f le bare = r.prefix_primary (expr f) ts (primary_first d) ∙ primary_again d f le bare

  pub primary_again : {t : Expr} {ts rest : Tokens} → Primary t ts rest → (f : ℕ) → length ts ≤ f → Bare (next rest) → primary (expr f) ts ≡ Some (t, rest)
  primary_again (number {t = t} {rest = rest} h) f le bare = r.number_reads (expr f) t rest h
  primary_again (free_number {t = t} {rest = rest} h) f le bare = r.free_number_reads (expr f) t rest h
  primary_again (name {t = t} {rest = rest} h) f le bare = r.name_reads (expr f) t rest h bare
  primary_again (selected h k d) zero le bare = absurd (omega arith)
  primary_again (selected {t = t} {b = b} {x = x} {ts = ts} {rest = rest} h k d) (suc f) le bare =
      r.selected_reads (expr (suc f)) t b x ts rest h k (selected_again d f (omega arith))
  primary_again (call h k d z) zero le bare = absurd (omega arith)
  primary_again (call {t = t} {a = a} {z = z} {xs = xs} {ts = ts} {rest = rest} h k d c) (suc f) le bare =
      r.call_reads (expr (suc f)) t a z xs ts rest h k
      (whole_list (expr (suc f)) xs ts (z ∷ rest) (listed_again d f (omega arith) (closes_at (word_of z) word.RightParen c closes_paren))) c
  primary_again (system h k d z) zero le bare = absurd (omega arith)
  primary_again (system {t = t} {a = a} {z = z} {x = x} {ts = ts} {rest = rest} h k d c) (suc f) le bare =
      r.system_reads (expr (suc f)) t a z x ts rest h k (whole_again d f (omega arith) (ends_at (word_of z) word.RightParen c paren)) c
  primary_again (group k d z) zero le bare = absurd (omega arith)
  primary_again (group {a = a} {z = z} {x = x} {ts = ts} {rest = rest} k d c) (suc f) le bare =
      r.group_reads (expr (suc f)) a z x ts rest k (whole_again d f (omega arith) (ends_at (word_of z) word.RightParen c paren)) c
  primary_again (concat k d z) zero le bare = absurd (omega arith)
  primary_again (concat {a = a} {z = z} {xs = xs} {ts = ts} {rest = rest} k d c) (suc f) le bare =
      let begun = listed_again d f (omega arith) (closes_at (word_of z) word.RightBrace c closes_brace) in
      r.concat_reads (expr (suc f)) a z begun.first xs ts begun.behind rest k begun.reads begun.no_brace
      (r.list_goes_on (expr (suc f)) begun.first begun.behind ∙ begun.goes_on [] (length begun.behind) (omega arith)) c
  primary_again (repeat k n h d y z) zero le bare = absurd (omega arith)
  primary_again (repeat {a = a} {b = b} {y = y} {z = z} {n = n} {xs = xs} {ts = ts} {us = us} {rest = rest} k dn h d c v) (suc f) le bare =
      r.repeat_reads (expr (suc f)) a b y z n xs ts us rest k (whole_again dn f (omega arith) (ends_at (word_of b) word.LeftBrace h opening)) h
      (whole_list (expr (suc f)) xs us (y ∷ z ∷ rest) (listed_again d f (omega (arith, whole_shrinks dn)) (closes_at (word_of y) word.RightBrace c closes_brace))) c v

  pub listed_again : {xs : List Expr} {ts rest : Tokens} → Listed xs ts rest → (f : ℕ) → length ts ≤ f → Closes (next rest) → Begun (expr (suc f)) xs ts rest
  listed_again (one {x = x} {ts = ts} {rest = rest} d) f le closes = record {
    first = x;
    behind = rest;
    reads = whole_again d f le closes.ends;
    no_brace = closes.no_brace;
    shorter = omega (arith, whole_shrinks d);
    goes_on = λ found m _. r.list_stops (expr (suc f)) m (found ++ x ∷ []) rest closes.no_comma;
  }
  listed_again (more {x = x} {y = y} {xs = xs} {k = k} {ts = ts} {us = us} {rest = rest} d h ds) f le closes =
      let begun = listed_again ds f (omega (arith, whole_shrinks d)) closes in
      record {
        first = x;
        behind = k ∷ us;
        reads = whole_again d f le (ends_at (word_of k) word.Comma h comma);
        no_brace = comma_no_brace (word_of k) h;
        shorter = omega (arith, whole_shrinks d);
        goes_on = λ found m le. one_more_item (expr (suc f)) x (y ∷ xs) k us rest begun h found m le;
      }

  pub selected_again : {x : Select} {ts rest : Tokens} → Selected x ts rest → (f : ℕ) → length ts ≤ f → select (expr (suc f)) ts ≡ Some (x, rest)
  selected_again (index {x = x} {z = z} {ts = ts} {rest = rest} d c) f le =
      r.index_reads (expr (suc f)) z x ts rest (whole_again d f le (ends_at (word_of z) word.RightBracket c bracket)) c
  selected_again (range {x = x} {y = y} {k = k} {z = z} {ts = ts} {us = us} {rest = rest} d h b c) f le =
      r.range_reads (expr (suc f)) k x y ts us rest (whole_again d f le (ends_at (word_of k) word.Colon h colon)) h
      (r.bound_reads (expr (suc f)) k z y us rest (whole_again b f (omega (arith, whole_shrinks d)) (ends_at (word_of z) word.RightBracket c bracket)) c)
  selected_again (up {x = x} {y = y} {k = k} {z = z} {ts = ts} {us = us} {rest = rest} d h b c) f le =
      r.up_reads (expr (suc f)) k x y ts us rest (whole_again d f le (ends_at (word_of k) word.PlusColon h plus_colon)) h
      (r.bound_reads (expr (suc f)) k z y us rest (whole_again b f (omega (arith, whole_shrinks d)) (ends_at (word_of z) word.RightBracket c bracket)) c)
  selected_again (down {x = x} {y = y} {k = k} {z = z} {ts = ts} {us = us} {rest = rest} d h b c) f le =
      r.down_reads (expr (suc f)) k x y ts us rest (whole_again d f le (ends_at (word_of k) word.MinusColon h minus_colon)) h
      (r.bound_reads (expr (suc f)) k z y us rest (whole_again b f (omega (arith, whole_shrinks d)) (ends_at (word_of z) word.RightBracket c bracket)) c)

pub at_end : Ends word.EndOfTokens
unfolding binds
at_end = record { joins = refl; chooses = λ h. cc; bare = record { selects = λ h. cc; calls = λ h. cc } }

pub one_tree : {t u : Expr} {ts : Tokens} → Whole t ts [] → Whole u ts [] → t ≡ u
one_tree {t} {u} {ts} d e =
    let same : Some (t, []) ≡ Some (u, []) = sym (whole_again d (length ts) (omega arith) at_end) ∙ whole_again e (length ts) (omega arith) at_end in
    ap (first_or t) same
