-- What is read is spelled.
use Rattle.std.proofs.Common.{◌≡◌, ℕ, zero, suc, Bool, true, false, ◌⊎◌, inl, inr, if◌then◌else◌, List, [], ◌∷◌, ◌++◌, length, None, refl, sym, ◌∙◌, subst, append_assoc}
use Rattle.std.proofs.Common.{append-nil}
use Rattle.vl_tree.specs.declared.words.Word.{Word}
use Rattle.vl_tree.specs.declared.expressions.Expr.{Expr}
use Rattle.vl_tree.specs.declared.expressions.Select.{Select}
use Rattle.vl_tree.specs.Words.{next, same_word}
use Rattle.vl_grammar.specs.Read.{Tokens, Parser, and_then, expr, select}
use Rattle.vl_grammar.specs.Spells.{Whole, Selected}
use Rattle.vl_grammar.proofs.Sound.{spelled, select_sound, expr_sound}
use Rattle.vl_rules.specs.Form.{Rule, Tree, Form, empty, unless, fixed, value, select_rest, seq, made, either, many, one_and, such, rule, Spells, Row, Begun, starts, no_free, bound, read_value, read_select, row, reads}
use Rattle.vl_rules.proofs.Tools.{got, split, carry, expect_ok}

-- a reader whose results are spelled
abbrev pub Sound : {A : Type 0} → (A → Tokens → Tokens → Type 0) → Parser A → Type 0
Sound {A} P p = (x : A) (ts rest : Tokens) → p ts ≡ got x rest → P x ts rest

if_read : {A : Type 0} (P : A → Tokens → Tokens → Type 0) (x y : A) (ts us rest : Tokens) (t b : Bool) → t ≡ b → (if b then got x us else None) ≡ got y rest → P x ts us
    → P y ts rest × (t ≡ true → P x ts us × (t ≡ true))
if_read P x y ts us rest t true is h d = (carry (λ y rest. P y ts rest) x y us rest h d, λ k. (d, k))
if_read P x y ts us rest t false is h d = cc

-- what passes a test
passes : {A : Type 0} (P : A → Tokens → Tokens → Type 0) (t : A → Tokens → Bool) (x y : A) (ts us rest : Tokens) (b : Bool) → t x us ≡ b
    → (if b then got x us else None) ≡ got y rest → P x ts us → P y ts rest × (t y rest ≡ true)
passes P t x y ts us rest true is h d = carry (λ y rest. P y ts rest × (t y rest ≡ true)) x y us rest h (d, is)
passes P t x y ts us rest false is h d = cc

bound_sound : {A : Type 0} (P : A → Tokens → Tokens → Type 0) (p : Parser A) → Sound P p → (x : A) (ts rest : Tokens) → bound p ts ≡ got x rest → P x ts rest × (no_free ts rest ≡ true)
bound_sound P p h x ts rest r =
    let i = split (p ts) _ _ r in
    passes P (λ _ us. no_free ts us) i.value x ts i.behind rest (no_free ts i.behind) refl i.goes (h i.value ts i.behind i.was)

value_sound : (x : Expr) (ts rest : Tokens) → read_value ts ≡ got x rest → Whole x ts rest × (no_free ts rest ≡ true)
unfolding read_value
value_sound x ts rest h = bound_sound Whole (λ ts. expr (suc (length ts)) 0 ts) (λ x ts rest. spelled (suc (length ts)) x ts rest) x ts rest h

select_read_sound : (x : Select) (ts rest : Tokens) → read_select ts ≡ got x rest → Selected x ts rest × (no_free ts rest ≡ true)
unfolding read_select
select_read_sound x ts rest h =
    bound_sound Selected (λ ts. select (expr (suc (length ts))) ts) (λ x ts rest. select_sound (expr (suc (length ts))) (expr_sound (suc (length ts))) x ts rest) x ts rest h

unless_sound : {A : Type 0} (w : Word) (a x : A) (ts rest : Tokens) (b : Bool) → same_word (next ts) w ≡ b → (if b then None else got a ts) ≡ got x rest
    → (a ≡ x) × (ts ≡ rest) × (same_word (next ts) w ≡ false)
unless_sound w a x ts rest true is h = cc
unless_sound w a x ts rest false is h = carry (λ x rest. (a ≡ x) × (ts ≡ rest) × (same_word (next ts) w ≡ false)) a x ts rest h (refl, refl, is)

-- what a row of turns adds to what was found
record Added {A : Type 0} (P : A → Tokens → Tokens → Type 0) (found xs : List A) (ts rest : Tokens) : Type 0 where
  more : List A
  is : xs ≡ found ++ more
  row : Row P more ts rest

added_none : {A : Type 0} (P : A → Tokens → Tokens → Type 0) (found xs : List A) (ts rest : Tokens) → got found ts ≡ got xs rest → Added P found xs ts rest
added_none P found xs ts rest h = carry (λ xs rest. Added P found xs ts rest) found xs ts rest h (record { more = []; is = sym (append-nil found); row = refl })

added_one : {A : Type 0} (P : A → Tokens → Tokens → Type 0) (found xs : List A) (x : A) (ts us rest : Tokens) → P x ts us → Added P (found ++ x ∷ []) xs us rest → Added P found xs ts rest
added_one P found xs x ts us rest d a = record { more = x ∷ a.more; is = a.is ∙ append_assoc found (x ∷ []) a.more; row = (us, d, a.row) }

row_turn : {A : Type 0} (P : A → Tokens → Tokens → Type 0) (p : Parser A) → Sound P p → (go : List A → Parser (List A)) (found xs : List A) (ts rest : Tokens) (b : Bool)
    → ((x : A) (us : Tokens) → go (found ++ x ∷ []) us ≡ got xs rest → Added P (found ++ x ∷ []) xs us rest)
    → (if b then and_then (p ts) (λ x. go (found ++ x ∷ [])) else got found ts) ≡ got xs rest → Added P found xs ts rest
row_turn P p s go found xs ts rest true later h =
    let i = split (p ts) _ _ h in added_one P found xs i.value ts i.behind rest (s i.value ts i.behind i.was) (later i.value i.behind i.goes)
row_turn P p s go found xs ts rest false later h = added_none P found xs ts rest h

row_sound : {A : Type 0} (P : A → Tokens → Tokens → Type 0) (begin : Word → Bool) (p : Parser A) → Sound P p → (n : ℕ) (found xs : List A) (ts rest : Tokens)
    → row begin p n found ts ≡ got xs rest → Added P found xs ts rest
row_sound P begin p s zero found xs ts rest h = added_none P found xs ts rest h
row_sound P begin p s (suc n) found xs ts rest h =
    row_turn P p s (row begin p n) found xs ts rest (begin (next ts)) (λ x us. row_sound P begin p s n (found ++ x ∷ []) xs us rest) h

many_sound : {A : Type 0} (P : A → Tokens → Tokens → Type 0) (begin : Word → Bool) (p : Parser A) → Sound P p → (xs : List A) (ts rest : Tokens)
    → row begin p (length ts) [] ts ≡ got xs rest → Row P xs ts rest
many_sound P begin p s xs ts rest h = let a = row_sound P begin p s (length ts) [] xs ts rest h in subst (λ z. Row P z ts rest) (sym a.is) a.row

begun_sound : {A : Type 0} (P Q : A → Tokens → Tokens → Type 0) (begin : Word → Bool) (q : Parser A) → Sound Q q → (x : A) (xs : List A) (ts us rest : Tokens)
    → P x ts us → row begin q (length us) (x ∷ []) us ≡ got xs rest → Begun P Q xs ts rest
begun_sound P Q begin q s x xs ts us rest d h =
    let a = row_sound Q begin q s (length us) (x ∷ []) xs us rest h in subst (λ z. Begun P Q z ts rest) (sym a.is) (us, d, a.row)

either_sound : {A : Type 0} (P Q : A → Tokens → Tokens → Type 0) (p q : Parser A) → Sound P p → Sound Q q → (b : Bool) (x : A) (ts rest : Tokens)
    → (if b then p ts else q ts) ≡ got x rest → P x ts rest ⊎ Q x ts rest
either_sound P Q p q s t true x ts rest h = inl (s x ts rest h)
either_sound P Q p q s t false x ts rest h = inr (t x ts rest h)

module _ (R : (r : Rule) → Tree r → Tokens → Tokens → Type 0) (P : (r : Rule) → Parser (Tree r)) (S : (r : Rule) → Sound (R r) (P r)) where
  pub sound : {A : Type 0} (p : Form A) (x : A) (ts rest : Tokens) → reads P p ts ≡ got x rest → Spells R p x ts rest
  sound (empty a) x ts rest h = carry (λ x rest. (a ≡ x) × (ts ≡ rest)) a x ts rest h (refl, refl)
  sound (unless w a) x ts rest h = unless_sound w a x ts rest (same_word (next ts) w) refl h
  sound (fixed w) x ts rest h = expect_ok w ts rest x h
  sound value x ts rest h = value_sound x ts rest h
  sound select_rest x ts rest h = select_read_sound x ts rest h
  sound (seq p q) x ts rest h =
      let i = split (reads P p ts) _ _ h in
      let j = split (reads P q i.behind) _ _ i.goes in
      carry (λ x rest. Spells R (seq p q) x ts rest) (i.value, j.value) x j.behind rest j.goes (i.behind, sound p i.value ts i.behind i.was, sound q j.value i.behind j.behind j.was)
  sound (made f p) x ts rest h =
      let i = split (reads P p ts) _ _ h in
      carry (λ x rest. Spells R (made f p) x ts rest) (f i.value) x i.behind rest i.goes (i.value, refl, sound p i.value ts i.behind i.was)
  sound (either p q) x ts rest h = either_sound (Spells R p) (Spells R q) (reads P p) (reads P q) (sound p) (sound q) (starts p (next ts)) x ts rest h
  sound (many p) x ts rest h = many_sound (Spells R p) (starts p) (reads P p) (sound p) x ts rest h
  sound (one_and p q) x ts rest h =
      let i = split (reads P p ts) _ _ h in
      begun_sound (Spells R p) (Spells R q) (starts q) (reads P q) (sound q) i.value x ts i.behind rest (sound p i.value ts i.behind i.was) i.goes
  sound (such t p) x ts rest h =
      let i = split (reads P p ts) _ _ h in
      passes (Spells R p) (λ x _. t x) i.value x ts i.behind rest (t i.value) refl i.goes (sound p i.value ts i.behind i.was)
  sound (rule r) x ts rest h = S r x ts rest h
