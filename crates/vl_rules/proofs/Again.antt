-- What is spelled is read again.
use Rattle.std.proofs.Common.{◌≡◌, ℕ, zero, suc, ◌<◌, ◌≤◌, Bool, true, false, not, ◌&&◌, ◌||◌, inl, inr, if◌then◌else◌, List, [], ◌∷◌, ◌++◌, length, Some, None, refl, ap, sym, ◌∙◌, subst, append_assoc, arith}
use Rattle.std.proofs.Common.{append-nil}
use Rattle.vl_tree.specs.declared.words.Word.{Word}
use Rattle.vl_tree.specs.declared.words.Word.TheVariants as word
use Rattle.vl_tree.specs.declared.expressions.Expr.{Expr}
use Rattle.vl_tree.specs.declared.expressions.Select.{Select}
use Rattle.vl_tree.specs.Words.{next, same_word}
use Rattle.vl_grammar.specs.Roles.{binds}
use Rattle.vl_grammar.specs.Read.{Tokens, Parser, and_then, expr, select}
use Rattle.vl_grammar.specs.Spells.{Whole, Selected, Ends}
use Rattle.vl_grammar.proofs.Again.{whole_again, selected_again}
use Rattle.vl_tree.specs.AllWords.{all}
use Rattle.vl_rules.specs.Form.{Rule, Tree, Form, empty, unless, fixed, value, select_rest, seq, made, either, many, one_and, such, rule, Spells, Row, Begun, rule_joins, joins, skips, starts, goes_on, leads, decided, no_free, bound, read_value, read_select, row, reads}
use Rattle.vl_rules.proofs.Tools.{got, both, expect_again, or_left, or_right, and_both, and_first, and_second, nor_first, nor_second, nand_first, not_true, never, at_word}
use Rattle.vl_rules.proofs.Opens.{Opens, Begins, opens, row_opens}

joins_ends : (w : Word) → joins w ≡ false → Ends w
unfolding joins binds
joins_ends word.Question h = cc
joins_ends word.LeftBracket h = cc
joins_ends word.LeftParen h = cc
joins_ends word.BarBar h = cc
joins_ends word.AmpersandAmpersand h = cc
joins_ends word.Bar h = cc
joins_ends word.Caret h = cc
joins_ends word.CaretTilde h = cc
joins_ends word.TildeCaret h = cc
joins_ends word.Ampersand h = cc
joins_ends word.EqualEqual h = cc
joins_ends word.NotEqual h = cc
joins_ends word.Less h = cc
joins_ends word.LessEqual h = cc
joins_ends word.Greater h = cc
joins_ends word.GreaterEqual h = cc
joins_ends word.ShiftLeft h = cc
joins_ends word.ShiftRight h = cc
joins_ends word.ShiftLeftSigned h = cc
joins_ends word.ShiftRightSigned h = cc
joins_ends word.Plus h = cc
joins_ends word.Minus h = cc
joins_ends word.Star h = cc
joins_ends word.Slash h = cc
joins_ends word.Percent h = cc
joins_ends word.StarStar h = cc
joins_ends _ h = record { joins = refl; chooses = λ k. cc; bare = record { selects = λ k. cc; calls = λ k. cc } }

bound_again : {A : Type 0} (p : Parser A) (x : A) (ts rest : Tokens) → p ts ≡ got x rest → no_free ts rest ≡ true → bound p ts ≡ got x rest
bound_again p x ts rest h k = rw (h, k)

value_again : (x : Expr) (ts rest : Tokens) → Whole x ts rest → no_free ts rest ≡ true → joins (next rest) ≡ false → read_value ts ≡ got x rest
unfolding read_value
value_again x ts rest d h k =
    bound_again (λ ts. expr (suc (length ts)) 0 ts) x ts rest (whole_again d (length ts) (omega arith) (joins_ends (next rest) k)) h

select_read_again : (x : Select) (ts rest : Tokens) → Selected x ts rest → no_free ts rest ≡ true → read_select ts ≡ got x rest
unfolding read_select
select_read_again x ts rest d h =
    bound_again (λ ts. select (expr (suc (length ts))) ts) x ts rest (selected_again d (length ts) (omega arith)) h

-- Facts that the tests of a form give at each word

apart : {A B : Type 0} (p : Form A) (q : Form B) → decided (seq p q) ≡ true → (w : Word) → (goes_on p w && starts q w) ≡ false
apart p q h w = not_true _ (at_word (λ w. not (goes_on p w && starts q w)) (and_first _ _ h) w)

seq_first : {A B : Type 0} (p : Form A) (q : Form B) → decided (seq p q) ≡ true → decided p ≡ true
seq_first p q h = and_first _ _ (and_second _ _ h)

seq_second : {A B : Type 0} (p : Form A) (q : Form B) → decided (seq p q) ≡ true → decided q ≡ true
seq_second p q h = and_second _ _ (and_second _ _ h)

takes_some : {A : Type 0} (p q : Form A) → decided (either p q) ≡ true → (w : Word) → skips p w ≡ false
takes_some p q h w = not_true _ (and_first _ _ (at_word (λ w. not (skips p w) && not (starts p w && starts q w)) (and_first _ _ h) w))

unlike : {A : Type 0} (p q : Form A) → decided (either p q) ≡ true → (w : Word) → (starts p w && starts q w) ≡ false
unlike p q h w = not_true _ (and_second _ _ (at_word (λ w. not (skips p w) && not (starts p w && starts q w)) (and_first _ _ h) w))

either_first : {A : Type 0} (p q : Form A) → decided (either p q) ≡ true → decided p ≡ true
either_first p q h = and_first _ _ (and_second _ _ h)

either_second : {A : Type 0} (p q : Form A) → decided (either p q) ≡ true → decided q ≡ true
either_second p q h = and_second _ _ (and_second _ _ h)

turns_take : {A : Type 0} (p : Form A) → decided (many p) ≡ true → (w : Word) → skips p w ≡ false
turns_take p h w = not_true _ (and_first _ _ (at_word (λ w. not (skips p w) && not (goes_on p w && starts p w)) (and_first _ _ h) w))

turns_apart : {A : Type 0} (p : Form A) → decided (many p) ≡ true → (w : Word) → (goes_on p w && starts p w) ≡ false
turns_apart p h w = not_true _ (and_second _ _ (at_word (λ w. not (skips p w) && not (goes_on p w && starts p w)) (and_first _ _ h) w))

-- Room for what is read: a form that may begin with a rule needs a token less
pub record Room {A : Type 0} (m : ℕ) (p : Form A) (ts : Tokens) : Type 0 where
  pub short : length ts ≤ suc m
  pub led : leads p ≡ true → length ts ≤ m

-- a form whose tokens are read again
abbrev pub Again : {A : Type 0} → ℕ → Form A → (A → Tokens → Tokens → Type 0) → Parser A → Type 0
Again {A} m p P r = (x : A) (ts rest : Tokens) → Room m p ts → P x ts rest → goes_on p (next rest) ≡ false → r ts ≡ got x rest

some_by : (f : Word → Bool) (w : Word) → f w ≡ true → (b : Bool) → all (λ w. not (f w)) ≡ b → not b ≡ true
some_by f w h true is = never (f w) h (not_true (f w) (at_word (λ w. not (f w)) is w))
some_by f w h false is = refl

skipped : {A B : Type 0} (p : Form A) (q : Form B) (w : Word) → skips p w ≡ true → leads q ≡ true → leads (seq p q) ≡ true
skipped p q w h k = or_right (leads p) _ (and_both (leads q) _ k (some_by (λ w. skips p w) w h (all (λ w. not (skips p w))) refl))

seq_room : {A B : Type 0} (m : ℕ) (p : Form A) (q : Form B) (ts mid : Tokens) → Opens p ts mid → Room m (seq p q) ts → Room m q mid
seq_room m p q ts mid (inl a) r = record { short = omega (arith, a.1, r.short); led = λ h. omega (arith, a.1, r.short) }
seq_room m p q ts mid (inr a) r = record {
  short = omega (arith, ap length a.0, r.short);
  led = λ h. omega (arith, ap length a.0, r.led (skipped p q (next ts) a.1 h));
}

-- what follows a first part does not go on with it
first_ends : {A B : Type 0} (p : Form A) (q : Form B) (mid rest : Tokens) → decided (seq p q) ≡ true → Opens q mid rest → goes_on (seq p q) (next rest) ≡ false
    → goes_on p (next mid) ≡ false
first_ends p q mid rest h (inl b) k = nand_first (goes_on p (next mid)) (starts q (next mid)) (apart p q h (next mid)) b.0
first_ends p q mid rest h (inr b) k =
    nand_first (goes_on p (next mid)) (skips q (next mid))
    (subst (λ z. (goes_on p (next z) && skips q (next z)) ≡ false) (sym b.0) (nor_second (goes_on q (next rest)) (goes_on p (next rest) && skips q (next rest)) k)) b.1

pair_again : {A B : Type 0} (p : Parser A) (q : Parser B) (x : A × B) (ts mid rest : Tokens) → p ts ≡ got x.0 mid → q mid ≡ got x.1 rest
    → and_then (p ts) (λ a us. and_then (q us) (λ b vs. Some ((a, b), vs))) ≡ got x rest
pair_again p q x ts mid rest h k = rw (h, k)

made_again : {A B : Type 0} (f : A → B) (p : Parser A) (a : A) (x : B) (ts rest : Tokens) → f a ≡ x → p ts ≡ got a rest → and_then (p ts) (λ a us. Some (f a, us)) ≡ got x rest
made_again f p a x ts rest h k = rw (k, h)

such_again : {A : Type 0} (t : A → Bool) (p : Parser A) (x : A) (ts rest : Tokens) → t x ≡ true → p ts ≡ got x rest
    → and_then (p ts) (λ a us. if t a then Some (a, us) else None) ≡ got x rest
such_again t p x ts rest h k = rw (k, h)

yes_again : {A : Type 0} (b : Bool) (p q : Parser A) (x : A) (ts rest : Tokens) → b ≡ true → p ts ≡ got x rest → (if b then p ts else q ts) ≡ got x rest
yes_again b p q x ts rest h k = rw (h, k)

no_again : {A : Type 0} (b : Bool) (p q : Parser A) (x : A) (ts rest : Tokens) → b ≡ false → q ts ≡ got x rest → (if b then p ts else q ts) ≡ got x rest
no_again b p q x ts rest h k = rw (h, k)

unless_again : {A : Type 0} (w : Word) (a x : A) (ts rest : Tokens) → a ≡ x → ts ≡ rest → same_word (next ts) w ≡ false → (if same_word (next ts) w then None else got a ts) ≡ got x rest
unless_again w a x ts rest h k n = rw n (both a x ts rest h k)

left_starts : {A : Type 0} (p q : Form A) (ts rest : Tokens) → decided (either p q) ≡ true → Opens p ts rest → starts p (next ts) ≡ true
left_starts p q ts rest h (inl a) = a.0
left_starts p q ts rest h (inr a) = never (skips p (next ts)) a.1 (takes_some p q h (next ts))

right_starts : {A : Type 0} (p q : Form A) (ts rest : Tokens) → decided (either p q) ≡ true → Opens q ts rest → goes_on (either p q) (next rest) ≡ false → starts p (next ts) ≡ false
right_starts p q ts rest h (inl a) k = nand_first (starts p (next ts)) (starts q (next ts)) (unlike p q h (next ts)) a.0
right_starts p q ts rest h (inr a) k =
    nand_first (starts p (next ts)) (skips q (next ts))
    (subst (λ z. (starts p (next z) && skips q (next z)) ≡ false) (sym a.0) (nor_second (goes_on q (next rest)) _ (nor_second (goes_on p (next rest)) _ k))) a.1

either_room : {A : Type 0} (m : ℕ) (p q : Form A) (ts : Tokens) → Room m (either p q) ts → Room m p ts × Room m q ts
either_room m p q ts r = (
  record { short = r.short; led = λ h. r.led (or_left (leads p) (leads q) h) },
  record { short = r.short; led = λ h. r.led (or_right (leads p) (leads q) h) },
)

neither : (a b : Bool) → a ≡ false → b ≡ false → (a || b) ≡ false
neither true b h k = cc
neither false b h k = k

and_false : (a : Bool) → a ≡ false → (a && true) ≡ false
and_false true h = cc
and_false false h = refl

-- Rows

row_stops : {A : Type 0} (begin : Word → Bool) (p : Parser A) (n : ℕ) (found : List A) (ts : Tokens) → begin (next ts) ≡ false → row begin p n found ts ≡ got found ts
row_stops begin p zero found ts h = refl
row_stops begin p (suc n) found ts h = rw h

row_steps : {A : Type 0} (begin : Word → Bool) (p : Parser A) (n : ℕ) (found : List A) (x : A) (ts us : Tokens) → begin (next ts) ≡ true → p ts ≡ got x us
    → row begin p (suc n) found ts ≡ row begin p n (found ++ x ∷ []) us
row_steps begin p n found x ts us h k = rw (h, k)

-- what follows a turn does not go on with it
turn_ends : {A : Type 0} (p : Form A) (mid rest : Tokens) → decided (many p) ≡ true → Opens (many p) mid rest → goes_on (many p) (next rest) ≡ false → goes_on p (next mid) ≡ false
turn_ends p mid rest h (inl b) k = nand_first (goes_on p (next mid)) (starts p (next mid)) (turns_apart p h (next mid)) b.0
turn_ends p mid rest h (inr b) k = subst (λ z. goes_on p (next z) ≡ false) (sym b.0) (nor_first (goes_on p (next rest)) (starts p (next rest)) k)

turn_starts : {A : Type 0} (p : Form A) (ts mid : Tokens) → decided (many p) ≡ true → Opens p ts mid → (starts p (next ts) ≡ true) × (length mid < length ts)
turn_starts p ts mid h (inl a) = a
turn_starts p ts mid h (inr a) = never (skips p (next ts)) a.1 (turns_take p h (next ts))

module _ {A : Type 0} (m : ℕ) (p : Form A) (P : A → Tokens → Tokens → Type 0) (r : Parser A) (ok : decided (many p) ≡ true)
    (begun : (x : A) (ts rest : Tokens) → P x ts rest → Opens p ts rest) (again : Again m p P r) where
  row_again : (xs : List A) (found : List A) (n : ℕ) (ts rest : Tokens) → length ts ≤ n → Room m p ts → Row P xs ts rest → goes_on (many p) (next rest) ≡ false
      → row (starts p) r n found ts ≡ got (found ++ xs) rest
  row_again [] found n ts rest le room d k =
      row_stops (starts p) r n found ts (subst (λ z. starts p (next z) ≡ false) (sym d) (nor_second (goes_on p (next rest)) (starts p (next rest)) k))
      ∙ both found (found ++ []) ts rest (sym (append-nil found)) d
  row_again (x ∷ xs) found zero ts rest le room d k = absurd (omega (arith, le, (turn_starts p ts d.0 ok (begun x ts d.0 d.1)).1))
  row_again (x ∷ xs) found (suc n) ts rest le room d k =
      let t = turn_starts p ts d.0 ok (begun x ts d.0 d.1) in
      let read = again x ts d.0 room d.1 (turn_ends p d.0 rest ok (row_opens p P begun xs d.0 rest d.2) k) in
      row_steps (starts p) r n found x ts d.0 t.0 read
      ∙ (row_again xs (found ++ x ∷ []) n d.0 rest (omega (arith, le, t.1)) (record { short = omega (arith, t.1, room.short); led = λ h. omega (arith, t.1, room.short) }) d.2 k
      ∙ ap (λ z. got z rest) (append_assoc found (x ∷ []) xs))

rest_decided : {A : Type 0} (p q : Form A) → decided (one_and p q) ≡ true → decided (many q) ≡ true
rest_decided p q h = and_second _ _ (and_second _ _ h)

pair_decided : {A : Type 0} (p q : Form A) → decided (one_and p q) ≡ true → decided (seq p (many q)) ≡ true
pair_decided p q h = and_both _ _ (and_first _ _ (and_second _ _ h)) (and_both (decided p) (decided (many q)) (and_first _ _ h) (rest_decided p q h))

pair_ends : {A : Type 0} (p q : Form A) (w : Word) → goes_on (one_and p q) w ≡ false → goes_on (seq p (many q)) w ≡ false
pair_ends p q w h = neither (goes_on (many q) w) (goes_on p w && true) (nor_second (goes_on p w) _ h) (and_false (goes_on p w) (nor_first (goes_on p w) _ h))

begin_again : {A : Type 0} (begin : Word → Bool) (p q : Parser A) (x : A) (xs : List A) (ts mid rest : Tokens) → p ts ≡ got x mid
    → row begin q (length mid) (x ∷ []) mid ≡ got xs rest → and_then (p ts) (λ a us. row begin q (length us) (a ∷ []) us) ≡ got xs rest
begin_again begin p q x xs ts mid rest h k = rw (h, k)

module _ {A : Type 0} (m : ℕ) (p q : Form A) (P Q : A → Tokens → Tokens → Type 0) (r t : Parser A) (ok : decided (one_and p q) ≡ true)
    (begun : (x : A) (ts rest : Tokens) → P x ts rest → Opens p ts rest) (later : (x : A) (ts rest : Tokens) → Q x ts rest → Opens q ts rest)
    (first : Again m p P r) (more : Again m q Q t) where
  begun_again : (xs : List A) (ts rest : Tokens) → Room m (one_and p q) ts → Begun P Q xs ts rest → goes_on (one_and p q) (next rest) ≡ false
      → and_then (r ts) (λ a us. row (starts q) t (length us) (a ∷ []) us) ≡ got xs rest
  begun_again [] ts rest room d k = absurd d
  begun_again (x ∷ xs) ts rest room d k =
      let opens = row_opens q Q later xs d.0 rest d.2 in
      let ends = first_ends p (many q) d.0 rest (pair_decided p q ok) opens (pair_ends p q (next rest) k) in
      let read = first x ts d.0 (record { short = room.short; led = λ h. room.led (or_left (leads p) _ h) }) d.1 ends in
      let mid = seq_room m p q ts d.0 (begun x ts d.0 d.1) (record { short = room.short; led = room.led }) in
      begin_again (starts q) r t x (x ∷ xs) ts d.0 rest read
      (row_again m q Q t (rest_decided p q ok) later more xs (x ∷ []) (length d.0) d.0 rest (omega arith) mid d.2 (nor_second (goes_on p (next rest)) _ k))

module _ (R : (r : Rule) → Tree r → Tokens → Tokens → Type 0) (P : (r : Rule) → Parser (Tree r)) (H : Begins R) (m : ℕ)
    (K : (r : Rule) (x : Tree r) (ts rest : Tokens) → length ts ≤ m → R r x ts rest → rule_joins r (next rest) ≡ false → P r ts ≡ got x rest) where
  pub again : {A : Type 0} (p : Form A) → decided p ≡ true → Again m p (Spells R p) (reads P p)
  again (empty a) h x ts rest room d k = both a x ts rest d.0 d.1
  again (unless w a) h x ts rest room d k = unless_again w a x ts rest d.0 d.1 d.2
  again (fixed w) h x ts rest room d k = expect_again w ts rest x d.0 d.1
  again value h x ts rest room d k = value_again x ts rest d.0 d.1 k
  again select_rest h x ts rest room d k = select_read_again x ts rest d.0 d.1
  again (seq p q) h x ts rest room d k =
      pair_again (reads P p) (reads P q) x ts d.0 rest
      (again p (seq_first p q h) x.0 ts d.0 (record { short = room.short; led = λ l. room.led (or_left (leads p) _ l) }) d.1
      (first_ends p q d.0 rest h (opens R H q x.1 d.0 rest d.2) k))
      (again q (seq_second p q h) x.1 d.0 rest (seq_room m p q ts d.0 (opens R H p x.0 ts d.0 d.1) room) d.2 (nor_first (goes_on q (next rest)) _ k))
  again (made f p) h x ts rest room d k = made_again f (reads P p) d.0 x ts rest d.1 (again p h d.0 ts rest (record { short = room.short; led = room.led }) d.2 k)
  again (either p q) h x ts rest room (inl d) k =
      yes_again (starts p (next ts)) (reads P p) (reads P q) x ts rest (left_starts p q ts rest h (opens R H p x ts rest d))
      (again p (either_first p q h) x ts rest (either_room m p q ts room).0 d (nor_first (goes_on p (next rest)) _ k))
  again (either p q) h x ts rest room (inr d) k =
      no_again (starts p (next ts)) (reads P p) (reads P q) x ts rest (right_starts p q ts rest h (opens R H q x ts rest d) k)
      (again q (either_second p q h) x ts rest (either_room m p q ts room).1 d (nor_first (goes_on q (next rest)) _ (nor_second (goes_on p (next rest)) _ k)))
  again (many p) h x ts rest room d k =
      row_again m p (Spells R p) (reads P p) h (opens R H p) (again p (and_second _ _ h)) x [] (length ts) ts rest (omega arith) (record { short = room.short; led = room.led }) d k
  again (one_and p q) h x ts rest room d k =
      begun_again m p q (Spells R p) (Spells R q) (reads P p) (reads P q) h (opens R H p) (opens R H q) (again p (and_first _ _ h)) (again q (and_second _ _ (rest_decided p q h))) x ts rest room d k
  again (such t p) h x ts rest room d k = such_again t (reads P p) x ts rest d.1 (again p h x ts rest (record { short = room.short; led = room.led }) d.0 k)
  again (rule r) h x ts rest room d k = K r x ts rest (room.led refl) d k
