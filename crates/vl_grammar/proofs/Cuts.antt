-- A tree spells its tokens whatever comes behind them.
use Rattle.std.proofs.Common.{◌≡◌, ℕ, List, [], ◌∷◌, ◌++◌, refl, ap, sym, ◌∙◌, subst, append_assoc}
use Rattle.std.proofs.Common.{append-nil}
use Rattle.vl_tree.specs.declared.tokens.Token.{Token}
use Rattle.vl_tree.specs.declared.expressions.Expr.{Expr}
use Rattle.vl_tree.specs.declared.expressions.Select.{Select}
use Rattle.vl_grammar.specs.Read.{Tokens}
use Rattle.vl_grammar.specs.Spells.{Whole, plain, choice, Joined, alone, binary, Prefix, unary, itself, Primary, number, free_number, name, selected, call, system, group, concat, repeat, Listed, one, more, Selected, index, range, up, down}

pub record Cut (P : Tokens → Tokens → Type 0) (ts rest : Tokens) : Type 0 where
  pub front : Tokens
  pub is : front ++ rest ≡ ts
  pub any : (other : Tokens) → P (front ++ other) other

-- the same tokens
as_is : {P R : Tokens → Tokens → Type 0} {ts rest : Tokens} → Cut P ts rest → ((a b : Tokens) → P a b → R a b) → Cut R ts rest
as_is c f = record { front = c.front; is = c.is; any = λ o. f (c.front ++ o) o (c.any o) }

-- a token before
head : {P R : Tokens → Tokens → Type 0} {ts rest : Tokens} → (k : Token) → Cut P ts rest → ((a b : Tokens) → P a b → R (k ∷ a) b) → Cut R (k ∷ ts) rest
head k c f = record { front = k ∷ c.front; is = ap (λ z. k ∷ z) c.is; any = λ o. f (c.front ++ o) o (c.any o) }

-- a token behind
last : {P R : Tokens → Tokens → Type 0} {ts rest : Tokens} → (k : Token) → Cut P ts (k ∷ rest) → ((a b : Tokens) → P a (k ∷ b) → R a b) → Cut R ts rest
last {P} {R} {ts} {rest} k c f = record {
  front = c.front ++ k ∷ [];
  is = append_assoc c.front (k ∷ []) rest ∙ c.is;
  any = λ o. subst (λ z. R z o) (sym (append_assoc c.front (k ∷ []) o)) (f (c.front ++ (k ∷ o)) o (c.any (k ∷ o)));
}

-- two, with a token between
join : {P Q R : Tokens → Tokens → Type 0} {ts us rest : Tokens} → (k : Token) → Cut P ts (k ∷ us) → Cut Q us rest → ((a b c : Tokens) → P a (k ∷ b) → Q b c → R a c) → Cut R ts rest
join {P} {Q} {R} {ts} {us} {rest} k p q f = record {
  front = p.front ++ (k ∷ q.front);
  is = append_assoc p.front (k ∷ q.front) rest ∙ (ap (λ z. p.front ++ (k ∷ z)) q.is ∙ p.is);
  any = λ o. subst (λ z. R z o) (sym (append_assoc p.front (k ∷ q.front) o)) (f (p.front ++ (k ∷ (q.front ++ o))) (q.front ++ o) o (p.any (k ∷ (q.front ++ o))) (q.any o));
}

two : {P R : Tokens → Tokens → Type 0} {ts rest : Tokens} → (j k : Token) → Cut P ts rest → ((a b : Tokens) → P a b → R (j ∷ k ∷ a) b) → Cut R (j ∷ k ∷ ts) rest
two j k c f = record { front = j ∷ k ∷ c.front; is = ap (λ z. j ∷ k ∷ z) c.is; any = λ o. f (c.front ++ o) o (c.any o) }

-- with a token behind
end : {P : Tokens → Tokens → Type 0} {ts rest : Tokens} → (k : Token) → Cut P ts (k ∷ rest) → Cut (λ a b. P a (k ∷ b)) ts rest
end k c = last k c (λ a b d. d)

mutual
  pub whole_cut : {t : Expr} {ts rest : Tokens} → Whole t ts rest → Cut (Whole t) ts rest
  whole_cut (plain d) = as_is (joined_cut d) (λ a b d. plain d)
  whole_cut (choice {q = q} {k = k} c hq a hk b) =
      join q (joined_cut c) (join {R = λ y z. (v : Tokens) × Whole _ y (k ∷ v) × Whole _ v z} k (whole_cut a) (whole_cut b) (λ y v z a b. (v, a, b))) (λ x y z c ab. choice c hq ab.1 hk ab.2)

  pub joined_cut : {n : ℕ} {t : Expr} {ts rest : Tokens} → Joined n t ts rest → Cut (Joined n t) ts rest
  joined_cut (alone d) = as_is (prefix_cut d) (λ a b d. alone d)
  joined_cut (binary {op = op} pos low at l r) = join op (joined_cut l) (joined_cut r) (λ a b c l r. binary pos low at l r)

  pub prefix_cut : {t : Expr} {ts rest : Tokens} → Prefix t ts rest → Cut (Prefix t) ts rest
  prefix_cut (unary {op = op} u d) = head op (prefix_cut d) (λ a b d. unary u d)
  prefix_cut (itself d) = as_is (primary_cut d) (λ a b d. itself d)

  pub primary_cut : {t : Expr} {ts rest : Tokens} → Primary t ts rest → Cut (Primary t) ts rest
  primary_cut (number {t = t} w) = record { front = t ∷ []; is = refl; any = λ o. number w }
  primary_cut (free_number {t = t} w) = record { front = t ∷ []; is = refl; any = λ o. free_number w }
  primary_cut (name {t = t} w) = record { front = t ∷ []; is = refl; any = λ o. name w }
  primary_cut (selected {t = t} {b = k} {x = x} w b d) = two t k (selected_cut d) (λ x y d. selected w b d)
  primary_cut (call {t = t} {a = k} {z = z} w a d h) = two t k (end z (listed_cut d)) (λ x y d. call w a d h)
  primary_cut (system {t = t} {a = k} {z = z} w a d h) = two t k (end z (whole_cut d)) (λ x y d. system w a d h)
  primary_cut (group {a = k} {z = z} a d h) = head k (end z (whole_cut d)) (λ x y d. group a d h)
  primary_cut (concat {a = k} {z = z} a d h) = head k (end z (listed_cut d)) (λ x y d. concat a d h)
  primary_cut (repeat {a = k} {b = j} {y = y} {z = z} {n = n} {xs = xs} a dn b d hy hz) =
      head k (join {R = λ x o. (v : Tokens) × Whole n x (j ∷ v) × Listed xs v (y ∷ z ∷ o)} j (whole_cut dn) (end z (end y (listed_cut d))) (λ x v o p q. (v, p, q))) (λ x o p. repeat a p.1 b p.2 hy hz)

  pub listed_cut : {xs : List Expr} {ts rest : Tokens} → Listed xs ts rest → Cut (Listed xs) ts rest
  listed_cut (one d) = as_is (whole_cut d) (λ a b d. one d)
  listed_cut (more {k = k} d h ds) = join k (whole_cut d) (listed_cut ds) (λ a b c d ds. more d h ds)

  pub selected_cut : {x : Select} {ts rest : Tokens} → Selected x ts rest → Cut (Selected x) ts rest
  selected_cut (index {z = z} d h) = last z (whole_cut d) (λ a b d. index d h)
  selected_cut (range {k = k} {z = z} d h e c) = join k (whole_cut d) (end z (whole_cut e)) (λ x v o p q. range p h q c)
  selected_cut (up {k = k} {z = z} d h e c) = join k (whole_cut d) (end z (whole_cut e)) (λ x v o p q. up p h q c)
  selected_cut (down {k = k} {z = z} d h e c) = join k (whole_cut d) (end z (whole_cut e)) (λ x v o p q. down p h q c)

-- The tokens of a tree are spelled by it when they stand alone.
pub record Alone (t : Expr) (ts rest : Tokens) : Type 0 where
  pub front : Tokens
  pub is : front ++ rest ≡ ts
  pub whole : Whole t front []

pub whole_alone : {t : Expr} {ts rest : Tokens} → Whole t ts rest → Alone t ts rest
whole_alone {t} d = let c = whole_cut d in record { front = c.front; is = c.is; whole = subst (λ z. Whole t z []) (append-nil c.front) (c.any []) }

pub alone_law : (t : Expr) (ts rest : Tokens) → Whole t ts rest → (front : Tokens) × (front ++ rest ≡ ts) × Whole t front []
alone_law t ts rest d = let a = whole_alone d in (a.front, a.is, a.whole)

pub before_law : (t : Expr) (front rest : Tokens) → Whole t front [] → Whole t (front ++ rest) rest
before_law t front rest d =
    let c = whole_cut d in
    let same : c.front ≡ front = sym (append-nil c.front) ∙ c.is in
    subst (λ z. Whole t (z ++ rest) rest) same (c.any rest)
