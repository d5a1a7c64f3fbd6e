-- What a tree of a form spells, another one spells in tokens that say the same, and the two have the same shape.
use Rattle.std.proofs.Common.{◌≡◌, Bool, true, false, ◌&&◌, ◌⊎◌, inl, inr, List, [], ◌∷◌, refl, ap, sym, ◌∙◌, subst}
use Rattle.vl_tree.specs.Words.{same_word}
use Rattle.vl_grammar.specs.Read.{Tokens}
use Rattle.vl_rules.specs.Form.{Rule, Tree, Form, empty, unless, fixed, value, select_rest, seq, made, either, many, one_and, such, rule, Spells, Row, Begun}
use Rattle.vl_rules.proofs.Tools.{and_first, and_second}
use Rattle.grammar_views.proofs.Like.{Like, Found, next_same, of_word, no_free_same, led}
use Rattle.grammar_views.proofs.Expressions.{whole_like, selected_like}

-- two lists, member by member
abbrev pub Each : {A : Type 0} → (A → A → Type 0) → List A → List A → Type 0
Each S [] [] = Unit {0}
Each S (x ∷ xs) (y ∷ ys) = S x y × Each S xs ys
Each S _ _ = ⊥

-- the same with first members of another kind
abbrev pub Firsts : {A : Type 0} → (A → A → Type 0) → (A → A → Type 0) → List A → List A → Type 0
Firsts S T (x ∷ xs) (y ∷ ys) = S x y × Each T xs ys
Firsts S T _ _ = ⊥

-- trees that a form makes in the same way, of whichever tokens, expressions and rules
abbrev pub Alike : {A : Type 0} → Form A → A → A → Type 0
Alike (empty a) x y = (a ≡ x) × (a ≡ y)
Alike (unless w a) x y = (a ≡ x) × (a ≡ y)
Alike (fixed w) x y = Unit {0}
Alike value x y = Unit {0}
Alike select_rest x y = Unit {0}
Alike (seq p q) x y = Alike p x.0 y.0 × Alike q x.1 y.1
Alike (made {A} f p) x y = (a : A) × (b : A) × (f a ≡ x) × (f b ≡ y) × Alike p a b
Alike (either p q) x y = Alike p x y ⊎ Alike q x y
Alike (many p) x y = Each (Alike p) x y
Alike (one_and p q) x y = Firsts (Alike p) (Alike q) x y
Alike (such t p) x y = Alike p x y
Alike (rule r) x y = Unit {0}

-- each test of a form answers the same of two trees that are made in the same way
abbrev pub Fair : {A : Type 0} → Form A → Type 0
Fair (seq p q) = Fair p × Fair q
Fair (made f p) = Fair p
Fair (either p q) = Fair p × Fair q
Fair (many p) = Fair p
Fair (one_and p q) = Fair p × Fair q
Fair (such {A} t p) = ((x y : A) → Alike p x y → t x ≡ t y) × Fair p
Fair _ = Unit {0}

-- whether a form has no test
abbrev pub untested : {A : Type 0} → Form A → Bool
untested (seq p q) = untested p && untested q
untested (made f p) = untested p
untested (either p q) = untested p && untested q
untested (many p) = untested p
untested (one_and p q) = untested p && untested q
untested (such t p) = false
untested _ = true

pub fair : {A : Type 0} (p : Form A) → untested p ≡ true → Fair p
fair (seq p q) h = (fair p (and_first (untested p) (untested q) h), fair q (and_second (untested p) (untested q) h))
fair (made f p) h = fair p h
fair (either p q) h = (fair p (and_first (untested p) (untested q) h), fair q (and_second (untested p) (untested q) h))
fair (many p) h = fair p h
fair (one_and p q) h = (fair p (and_first (untested p) (untested q) h), fair q (and_second (untested p) (untested q) h))
fair (such t p) h = cc
fair _ h = tt

-- a tree of the same shape that spells the tokens up to a rest that is like this one
pub record Twin {A : Type 0} (P : A → Tokens → Tokens → Type 0) (S : A → Type 0) (us rest : Tokens) : Type 0 where
  pub tree : A
  pub behind : Tokens
  pub stands : P tree us behind
  pub like : Like rest behind
  pub alike : S tree

abbrev pub Twins : {A : Type 0} → (A → Tokens → Tokens → Type 0) → (A → A → Type 0) → Type 0
Twins {A} P S = (x : A) (ts rest us : Tokens) → P x ts rest → Like ts us → Twin P (S x) us rest

row_twin : {A : Type 0} (P : A → Tokens → Tokens → Type 0) (S : A → A → Type 0) → Twins P S → Twins (Row P) (Each S)
row_twin P S h [] ts rest us d l = record { tree = []; behind = us; stands = refl; like = subst (λ z. Like z us) d l; alike = tt }
row_twin P S h (x ∷ xs) ts rest us d l =
    let i = h x ts d.0 us d.1 l in
    let j = row_twin P S h xs d.0 rest i.behind d.2 i.like in
    record { tree = i.tree ∷ j.tree; behind = j.behind; stands = (i.behind, i.stands, j.stands); like = j.like; alike = (i.alike, j.alike) }

begun_twin : {A : Type 0} (P Q : A → Tokens → Tokens → Type 0) (S T : A → A → Type 0) → Twins P S → Twins Q T → Twins (Begun P Q) (Firsts S T)
begun_twin P Q S T h k [] ts rest us d l = absurd d
begun_twin P Q S T h k (x ∷ xs) ts rest us d l =
    let i = h x ts d.0 us d.1 l in
    let j = row_twin Q T k xs d.0 rest i.behind d.2 i.like in
    record { tree = i.tree ∷ j.tree; behind = j.behind; stands = (i.behind, i.stands, j.stands); like = j.like; alike = (i.alike, j.alike) }

module _ (R : (r : Rule) → Tree r → Tokens → Tokens → Type 0) (H : (r : Rule) (x : Tree r) (ts rest us : Tokens) → R r x ts rest → Like ts us → Found (R r) us rest) where
  pub twin : {A : Type 0} (p : Form A) → Fair p → Twins (Spells R p) (Alike p)
  twin (empty a) f x ts rest us d l = record { tree = a; behind = us; stands = (refl, refl); like = subst (λ z. Like z us) d.1 l; alike = (d.0, refl) }
  twin (unless w a) f x ts rest us d l = record {
    tree = a;
    behind = us;
    stands = (refl, refl, ap (λ z. same_word z w) (sym (next_same ts us l)) ∙ d.2);
    like = subst (λ z. Like z us) d.1 l;
    alike = (d.0, refl);
  }
  twin (fixed w) f x ts rest us d l =
      led (λ z. Twin (Spells R (fixed w)) (Alike (fixed w) x) z rest) x rest us (subst (λ z. Like z us) d.0 l)
      (λ u vs same k. record { tree = u; behind = vs; stands = (refl, of_word x u w same d.1); like = k; alike = tt })
  twin value f x ts rest us d l =
      let i = whole_like d.0 us l in
      record { tree = i.tree; behind = i.behind; stands = (i.stands, no_free_same ts rest us i.behind l i.like d.1); like = i.like; alike = tt }
  twin select_rest f x ts rest us d l =
      let i = selected_like d.0 us l in
      record { tree = i.tree; behind = i.behind; stands = (i.stands, no_free_same ts rest us i.behind l i.like d.1); like = i.like; alike = tt }
  twin (seq p q) f x ts rest us d l =
      let i = twin p f.0 x.0 ts d.0 us d.1 l in
      let j = twin q f.1 x.1 d.0 rest i.behind d.2 i.like in
      record { tree = (i.tree, j.tree); behind = j.behind; stands = (i.behind, i.stands, j.stands); like = j.like; alike = (i.alike, j.alike) }
  twin (made g p) f x ts rest us d l =
      let i = twin p f d.0 ts rest us d.2 l in
      record { tree = g i.tree; behind = i.behind; stands = (i.tree, refl, i.stands); like = i.like; alike = (d.0, i.tree, d.1, refl, i.alike) }
  twin (either p q) f x ts rest us (inl d) l =
      let i = twin p f.0 x ts rest us d l in record { tree = i.tree; behind = i.behind; stands = inl i.stands; like = i.like; alike = inl i.alike }
  twin (either p q) f x ts rest us (inr d) l =
      let i = twin q f.1 x ts rest us d l in record { tree = i.tree; behind = i.behind; stands = inr i.stands; like = i.like; alike = inr i.alike }
  twin (many p) f x ts rest us d l = row_twin (Spells R p) (Alike p) (twin p f) x ts rest us d l
  twin (one_and p q) f x ts rest us d l = begun_twin (Spells R p) (Spells R q) (Alike p) (Alike q) (twin p f.0) (twin q f.1) x ts rest us d l
  twin (such t p) f x ts rest us d l =
      let i = twin p f.1 x ts rest us d.0 l in
      record { tree = i.tree; behind = i.behind; stands = (i.stands, sym (f.0 x i.tree i.alike) ∙ d.1); like = i.like; alike = i.alike }
  twin (rule r) f x ts rest us d l =
      let i = H r x ts rest us d l in record { tree = i.tree; behind = i.behind; stands = i.stands; like = i.like; alike = tt }
