-- What a form spells it spells before other tokens too, where these begin with the same word.
use Rattle.std.proofs.Common.{◌≡◌, ◌-◌, true, not, ◌&&◌, inl, inr, List, [], ◌∷◌, ◌++◌, length, refl, ap, sym, ◌∙◌, subst, append_assoc, arith}
use Rattle.std.proofs.lemmas.List.{length-append}
use Rattle.vl_tree.specs.Words.{word_of, next, same_word}
use Rattle.vl_grammar.specs.Read.{Tokens}
use Rattle.vl_grammar.proofs.Cuts.{Cut, whole_cut, selected_cut}
use Rattle.vl_rules.specs.Form.{Rule, Tree, Form, empty, unless, fixed, value, select_rest, seq, made, either, many, one_and, such, rule, Spells, Row, Begun, is_free, none_free, no_free}

pub record Piece (P : Tokens → Tokens → Type 0) (ts rest : Tokens) : Type 0 where
  pub front : Tokens
  pub is : front ++ rest ≡ ts
  pub any : (o : Tokens) → next o ≡ next rest → P (front ++ o) o

next_behind : (front o rest : Tokens) → next o ≡ next rest → next (front ++ o) ≡ next (front ++ rest)
next_behind [] o rest h = h
next_behind (t ∷ front) o rest h = refl

none : (P : Tokens → Tokens → Type 0) (ts rest : Tokens) → ts ≡ rest → ((o : Tokens) → next o ≡ next rest → P o o) → Piece P ts rest
none P ts rest h f = record { front = []; is = sym h; any = f }

as_is : {P Q : Tokens → Tokens → Type 0} {ts rest : Tokens} → Piece P ts rest → ((a b : Tokens) → P a b → Q a b) → Piece Q ts rest
as_is p f = record { front = p.front; is = p.is; any = λ o k. f (p.front ++ o) o (p.any o k) }

-- one behind the other
join : {P Q S : Tokens → Tokens → Type 0} (ts mid rest : Tokens) → Piece P ts mid → Piece Q mid rest → ((a b c : Tokens) → P a b → Q b c → S a c) → Piece S ts rest
join {P} {Q} {S} ts mid rest p q f = record {
  front = p.front ++ q.front;
  is = append_assoc p.front q.front rest ∙ (ap (λ z. p.front ++ z) q.is ∙ p.is);
  any = λ o k.
      subst (λ z. S z o) (sym (append_assoc p.front q.front o))
      (f (p.front ++ (q.front ++ o)) (q.front ++ o) o (p.any (q.front ++ o) (next_behind q.front o rest k ∙ ap next q.is)) (q.any o k));
}

-- Numbers with free bits

taken : (front rest : Tokens) → length (front ++ rest) - length rest ≡ length front
taken front rest = omega (arith, length-append front rest)

none_free_in : (front rest : Tokens) → none_free (length front) (front ++ rest) ≡ none_free (length front) (front ++ [])
none_free_in [] rest = refl
none_free_in (t ∷ front) rest = ap (λ b. not (is_free (word_of t)) && b) (none_free_in front rest)

no_free_front : (front rest : Tokens) → no_free (front ++ rest) rest ≡ none_free (length front) (front ++ [])
no_free_front front rest = ap (λ n. none_free n (front ++ rest)) (taken front rest) ∙ none_free_in front rest

bound_piece : {P : Tokens → Tokens → Type 0} (ts rest : Tokens) → Cut P ts rest → no_free ts rest ≡ true → Piece (λ a b. P a b × (no_free a b ≡ true)) ts rest
bound_piece {P} ts rest c h = record {
  front = c.front;
  is = c.is;
  any = λ o _. (c.any o, no_free_front c.front o ∙ (sym (no_free_front c.front rest) ∙ (ap (λ z. no_free z rest) c.is ∙ h)));
}

-- Forms

abbrev pub Moves : {A : Type 0} → (A → Tokens → Tokens → Type 0) → Type 0
Moves {A} P = (x : A) (ts rest : Tokens) → P x ts rest → Piece (P x) ts rest

row_moves : {A : Type 0} (P : A → Tokens → Tokens → Type 0) → Moves P → (xs : List A) (ts rest : Tokens) → Row P xs ts rest → Piece (Row P xs) ts rest
row_moves P h [] ts rest d = none (Row P []) ts rest d (λ o k. refl)
row_moves P h (x ∷ xs) ts rest d = join ts d.0 rest (h x ts d.0 d.1) (row_moves P h xs d.0 rest d.2) (λ a b c p q. (b, p, q))

begun_moves : {A : Type 0} (P Q : A → Tokens → Tokens → Type 0) → Moves P → Moves Q → (xs : List A) (ts rest : Tokens) → Begun P Q xs ts rest → Piece (Begun P Q xs) ts rest
begun_moves P Q h k [] ts rest d = absurd d
begun_moves P Q h k (x ∷ xs) ts rest d = join ts d.0 rest (h x ts d.0 d.1) (row_moves Q k xs d.0 rest d.2) (λ a b c p q. (b, p, q))

module _ (R : (r : Rule) → Tree r → Tokens → Tokens → Type 0) (H : (r : Rule) → Moves (R r)) where
  pub moves : {A : Type 0} (p : Form A) (x : A) (ts rest : Tokens) → Spells R p x ts rest → Piece (Spells R p x) ts rest
  moves (empty a) x ts rest d = none (Spells R (empty a) x) ts rest d.1 (λ o k. (d.0, refl))
  moves (unless w a) x ts rest d =
      none (Spells R (unless w a) x) ts rest d.1 (λ o k. (d.0, refl, ap (λ v. same_word v w) (k ∙ sym (ap next d.1)) ∙ d.2))
  moves (fixed w) x ts rest d = record { front = x ∷ []; is = sym d.0; any = λ o k. (refl, d.1) }
  moves value x ts rest d = bound_piece ts rest (whole_cut d.0) d.1
  moves select_rest x ts rest d = bound_piece ts rest (selected_cut d.0) d.1
  moves (seq p q) x ts rest d = join ts d.0 rest (moves p x.0 ts d.0 d.1) (moves q x.1 d.0 rest d.2) (λ a b c p q. (b, p, q))
  moves (made f p) x ts rest d = as_is (moves p d.0 ts rest d.2) (λ a b e. (d.0, d.1, e))
  moves (either p q) x ts rest (inl d) = as_is (moves p x ts rest d) (λ a b e. inl e)
  moves (either p q) x ts rest (inr d) = as_is (moves q x ts rest d) (λ a b e. inr e)
  moves (many p) x ts rest d = row_moves (Spells R p) (moves p) x ts rest d
  moves (one_and p q) x ts rest d = begun_moves (Spells R p) (Spells R q) (moves p) (moves q) x ts rest d
  moves (such t p) x ts rest d = as_is (moves p x ts rest d.0) (λ a b e. (e, d.1))
  moves (rule r) x ts rest d = H r x ts rest d
