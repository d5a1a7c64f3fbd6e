-- A source and its parts agree: the modules of a source spell the parts of its tokens, cut after each `endmodule`.
use Rattle.std.proofs.Common.{◌≡◌, ℕ, zero, suc, ◌+◌, ◌<◌, ◌≤◌, Bool, true, false, if◌then◌else◌, List, [], ◌∷◌, ◌++◌, length, refl, ap, sym, ◌∙◌, subst, append_assoc, arith}
use Rattle.std.proofs.lemmas.List.{length-append}
use Rattle.vl_tree.specs.declared.tokens.Token.{Token}
use Rattle.vl_tree.specs.declared.words.Word.TheVariants as word
use Rattle.vl_tree.specs.declared.modules.Module.{Module}
use Rattle.vl_tree.specs.Words.{word_of, next}
use Rattle.vl_grammar.specs.Read.{Tokens}
use Rattle.vl_rules.specs.Form.{Rule, Spells, Row}
use Rattle.vl_rules.specs.Modules.{module_text, module_form, source, body, spelled_to, read_to, Stands}
use Rattle.vl_rules.specs.Files.{into_first, cut, Spelled, Breaks}
use Rattle.vl_rules.proofs.Tools.{same_refl}
use Rattle.vl_rules.proofs.Ends.{closing, ends, Even, even}
use Rattle.vl_rules.proofs.Moves.{Moves, moves}
use Rattle.vl_rules.proofs.Sound.{sound}
use Rattle.vl_rules.proofs.Knot.{sound_to}
use Rattle.vl_rules.proofs.Modules.{module_again}
use Rattle.vl_rules.proofs.Tests.{body_closes, text_closes}

-- The rules to a depth

even_to : (n : ℕ) (r : Rule) → Even (spelled_to n r)
unfolding spelled_to
even_to zero r x ts rest d = absurd d
even_to (suc n) r x ts rest d = even (spelled_to n) (even_to n) (body r) (body_closes r) x ts rest d

moves_to : (n : ℕ) (r : Rule) → Moves (spelled_to n r)
unfolding spelled_to
moves_to zero r x ts rest d = absurd d
moves_to (suc n) r x ts rest d = moves (spelled_to n) (moves_to n) (body r) x ts rest d

-- Modules

-- a module ends with its one `endmodule`, and stands before any tokens
record Closed (m : Module) (ts rest : Tokens) : Type 0 where
  front : Tokens
  last : Token
  is_last : word_of last ≡ word.EndModule
  none : ends front ≡ 0
  is : front ++ last ∷ rest ≡ ts
  any : (o : Tokens) → Stands module_form m (front ++ last ∷ o) o

ends_step : (t : Token) (a b : Tokens) (c : Bool) → ends (a ++ b) ≡ ends a + ends b
    → (if c then suc (ends (a ++ b)) else ends (a ++ b)) ≡ (if c then suc (ends a) else ends a) + ends b
ends_step t a b true h = omega (arith, h)
ends_step t a b false h = h

ends_append : (a b : Tokens) → ends (a ++ b) ≡ ends a + ends b
ends_append [] b = omega arith
ends_append (t ∷ a) b = ends_step t a b (closing (word_of t)) (ends_append a b)

no_ends : (front rest : Tokens) → ends (front ++ rest) ≡ ends rest → ends front ≡ 0
no_ends front rest h = omega (arith, h, ends_append front rest)

closed : (n : ℕ) (m : Module) (ts rest : Tokens) → Spells (spelled_to n) module_form m ts rest → Closed m ts rest
unfolding module_form
closed n m ts rest d =
    let a = d.2.0 in
    let q = d.2.2 in
    let p = moves (spelled_to n) (moves_to n) module_text a.0 ts q.0 q.1 in
    record {
      front = p.front;
      last = a.1;
      is_last = q.2.1;
      none = no_ends p.front q.0 (ap ends p.is ∙ even (spelled_to n) (even_to n) module_text text_closes a.0 ts q.0 q.1);
      is = ap (λ z. p.front ++ z) (sym q.2.0) ∙ p.is;
      any = λ o. (n, (d.0, d.1, (a, d.2.1, (a.1 ∷ o, p.any (a.1 ∷ o) (sym (ap next q.2.0)), (refl, q.2.1)))));
    }

-- Parts

is_closing : (t : Token) → word_of t ≡ word.EndModule → closing (word_of t) ≡ true
is_closing t h = ap closing h ∙ same_refl word.EndModule

cut_last : (last : Token) (o : Tokens) → word_of last ≡ word.EndModule → cut (last ∷ o) ≡ (last ∷ []) ∷ cut o
cut_last last o h = rw (is_closing last h)

cut_other : (t : Token) (ts : Tokens) → closing (word_of t) ≡ false → cut (t ∷ ts) ≡ into_first t (cut ts)
cut_other t ts h = rw h

some_ends : (t : Token) (front : Tokens) (c : Bool) → (if c then suc (ends front) else ends front) ≡ 0 → (c ≡ false) × (ends front ≡ 0)
some_ends t front true h = absurd (omega (arith, h))
some_ends t front false h = (refl, h)

-- the first part is what stands up to the first `endmodule`
cut_front : (front : Tokens) (last : Token) (o : Tokens) → ends front ≡ 0 → word_of last ≡ word.EndModule → cut (front ++ last ∷ o) ≡ (front ++ last ∷ []) ∷ cut o
cut_front [] last o none h = cut_last last o h
cut_front (t ∷ front) last o none h =
    let s = some_ends t front (closing (word_of t)) none in
    cut_other t (front ++ last ∷ o) s.0 ∙ ap (into_first t) (cut_front front last o s.1 h)

abbrev whole : List Tokens → Tokens
whole [] = []
whole (p ∷ ps) = p ++ whole ps

whole_into : (t : Token) (ps : List Tokens) → whole (into_first t ps) ≡ t ∷ whole ps
whole_into t [] = refl
whole_into t (p ∷ ps) = refl

whole_step : (t : Token) (ts : Tokens) (c : Bool) → whole (cut ts) ≡ ts → whole (if c then (t ∷ []) ∷ cut ts else into_first t (cut ts)) ≡ t ∷ ts
whole_step t ts true h = ap (λ z. t ∷ z) h
whole_step t ts false h = whole_into t (cut ts) ∙ ap (λ z. t ∷ z) h

-- the parts of tokens are these tokens
whole_cut : (ts : Tokens) → whole (cut ts) ≡ ts
whole_cut [] = refl
whole_cut (t ∷ ts) = whole_step t ts (closing (word_of t)) (whole_cut ts)

abbrev tail : {A : Type 0} → List A → List A
tail [] = []
tail (x ∷ xs) = xs

-- what is behind a first part
record Behind (m : Module) (ts : Tokens) (ps : List Tokens) : Type 0 where
  rest : Tokens
  parts : cut rest ≡ ps
  stands : Stands module_form m ts rest
  less : length rest < length ts

behind : (m : Module) (p : Tokens) (ps : List Tokens) (ts : Tokens) → cut ts ≡ p ∷ ps → Stands module_form m p [] → Behind m ts ps
behind m p ps ts h d =
    let c = closed d.0 m p [] d.1 in
    let joined : c.front ++ c.last ∷ whole ps ≡ ts =
    sym (append_assoc c.front (c.last ∷ []) (whole ps)) ∙ (ap (λ z. z ++ whole ps) c.is ∙ (ap whole (sym h) ∙ whole_cut ts)) in
    record {
      rest = whole ps;
      parts = ap tail (sym (cut_front c.front c.last (whole ps) c.none c.is_last) ∙ (ap cut joined ∙ h));
      stands = subst (λ z. Stands module_form m z (whole ps)) joined (c.any (whole ps));
      less = omega (arith, ap length joined, length-append c.front (c.last ∷ whole ps));
    }

-- a source spells its parts
parts_of : (n : ℕ) (ms : List Module) (ts : Tokens) → Row (Spells (spelled_to n) module_form) ms ts [] → Spelled ms (cut ts)
parts_of n [] ts d = subst (λ z. Spelled [] (cut z)) (sym d) tt
parts_of n (m ∷ ms) ts d =
    let c = closed n m ts d.0 d.1 in
    subst (λ z. Spelled (m ∷ ms) z) (sym (cut_front c.front c.last d.0 c.none c.is_last) ∙ ap cut c.is) (c.any [], parts_of n ms d.0 d.2)

pub in_parts : (ms : List Module) (ts : Tokens) → Stands source ms ts [] → Spelled ms (cut ts)
unfolding source
in_parts ms ts d = parts_of d.0 ms ts d.1

no_parts : (ts : Tokens) (ps : List Tokens) → cut ts ≡ ps → Spelled [] ps → ts ≡ []
no_parts ts [] h d = sym (whole_cut ts) ∙ ap whole h
no_parts ts (p ∷ ps) h d = absurd d

-- a module that is spelled is spelled to the depth of its tokens
deep : (f : ℕ) (m : Module) (ts rest : Tokens) → length ts ≤ f → Stands module_form m ts rest → Spells (spelled_to f) module_form m ts rest
deep f m ts rest le d = sound (spelled_to f) (read_to f) (sound_to f) module_form m ts rest (module_again f m ts rest le d)

row_of : (f : ℕ) (ms : List Module) (ts : Tokens) (ps : List Tokens) → length ts ≤ f → cut ts ≡ ps → Spelled ms ps → Row (Spells (spelled_to f) module_form) ms ts []
row_of f [] ts ps le h d = no_parts ts ps h d
row_of f (m ∷ ms) ts [] le h d = absurd d
row_of f (m ∷ ms) ts (p ∷ ps) le h d =
    let b = behind m p ps ts h d.0 in
    (b.rest, deep f m ts b.rest le b.stands, row_of f ms b.rest ps (omega (arith, le, b.less)) b.parts d.1)

-- the parts of a source are spelled by it
pub from_parts : (ms : List Module) (ts : Tokens) → Spelled ms (cut ts) → Stands source ms ts []
unfolding source
from_parts ms ts d = (length ts, row_of (length ts) ms ts (cut ts) (omega arith) refl d)

-- Where a part is spelled by no module, no source spells the tokens.

abbrev Spoiled : List Tokens → Tokens → List Tokens → Type 0
Spoiled front p later = (ms : List Module) → Spelled ms (front ++ p ∷ later) → ⊥

spoiled : (front : List Tokens) (p : Tokens) (later : List Tokens) → ((m : Module) → Stands module_form m p [] → ⊥) → Spoiled front p later
spoiled [] p later h [] d = d
spoiled [] p later h (m ∷ ms) d = h m d.0
spoiled (q ∷ front) p later h [] d = d
spoiled (q ∷ front) p later h (m ∷ ms) d = spoiled front p later h ms d.1

pub broken : (ts : Tokens) (t : Token) → Breaks (cut ts) t → (ms : List Module) → Stands source ms ts [] → ⊥
broken ts t b ms d = spoiled b.front (t ∷ b.rest) b.behind b.none ms (subst (λ z. Spelled ms z) b.is (in_parts ms ts d))
