-- Tokens that say the same, one by one.
use Rattle.std.proofs.Common.{◌≡◌, ℕ, zero, suc, ◌-◌, true, not, ◌&&◌, [], ◌∷◌, map, length, refl, ap, sym, ◌∙◌}
use Rattle.vl_tree.specs.declared.tokens.Token.{Token}
use Rattle.vl_tree.specs.declared.words.Word.{Word}
use Rattle.vl_tree.specs.Words.{word, word_of, next}
use Rattle.vl_lex.specs.Lexed.{Seen, view}
use Rattle.vl_grammar.specs.Read.{Tokens}
use Rattle.vl_rules.specs.Form.{is_free, none_free, no_free}

abbrev pub Same : Token → Token → Type 0
Same t u = view t ≡ view u

abbrev pub Like : Tokens → Tokens → Type 0
Like [] [] = Unit {0}
Like (t ∷ ts) (u ∷ us) = Same t u × Like ts us
Like _ _ = ⊥

pub like_of : (ts us : Tokens) → map view ts ≡ map view us → Like ts us
like_of [] [] h = tt
like_of [] (u ∷ us) h = absurd (cc)
like_of (t ∷ ts) [] h = absurd (cc)
like_of (t ∷ ts) (u ∷ us) h =
    let first : view t ≡ view u = cc in
    let behind : map view ts ≡ map view us = cc in
    (first, like_of ts us behind)

pub like_back : (ts us : Tokens) → Like ts us → Like us ts
like_back [] [] l = tt
like_back [] (u ∷ us) l = absurd l
like_back (t ∷ ts) [] l = absurd l
like_back (t ∷ ts) (u ∷ us) l = (sym l.0, like_back ts us l.1)

pub like_none : (us : Tokens) → Like [] us → us ≡ []
like_none [] l = refl
like_none (u ∷ us) l = absurd l

pub word_same : (t u : Token) → Same t u → word_of t ≡ word_of u
word_same t u h = ap (λ (s : Seen). word s.kind s.text) h

pub of_word : (t u : Token) (w : Word) → Same t u → word_of t ≡ w → word_of u ≡ w
of_word t u w s h = sym (word_same t u s) ∙ h

pub next_same : (ts us : Tokens) → Like ts us → next ts ≡ next us
next_same [] [] l = refl
next_same [] (u ∷ us) l = absurd l
next_same (t ∷ ts) [] l = absurd l
next_same (t ∷ ts) (u ∷ us) l = word_same t u l.0

pub length_same : (ts us : Tokens) → Like ts us → length ts ≡ length us
length_same [] [] l = refl
length_same [] (u ∷ us) l = absurd l
length_same (t ∷ ts) [] l = absurd l
length_same (t ∷ ts) (u ∷ us) l = ap (λ n. suc n) (length_same ts us l.1)

none_free_same : (n : ℕ) (ts us : Tokens) → Like ts us → none_free n ts ≡ none_free n us
none_free_same zero ts us l = refl
none_free_same (suc n) [] [] l = refl
none_free_same (suc n) [] (u ∷ us) l = absurd l
none_free_same (suc n) (t ∷ ts) [] l = absurd l
none_free_same (suc n) (t ∷ ts) (u ∷ us) l =
    ap (λ w. not (is_free w) && none_free n ts) (word_same t u l.0) ∙ ap (λ b. not (is_free (word_of u)) && b) (none_free_same n ts us l.1)

pub no_free_same : (ts rest us behind : Tokens) → Like ts us → Like rest behind → no_free ts rest ≡ true → no_free us behind ≡ true
no_free_same ts rest us behind l k h =
    ap (λ n. none_free (n - length behind) us) (sym (length_same ts us l))
    ∙ (ap (λ n. none_free (length ts - n) us) (sym (length_same rest behind k))
    ∙ (sym (none_free_same (length ts - length rest) ts us l) ∙ h))

-- what is like a list with a first token has a first token
pub led : (Q : Tokens → Type 0) (t : Token) (ts us : Tokens) → Like (t ∷ ts) us → ((u : Token) (vs : Tokens) → Same t u → Like ts vs → Q (u ∷ vs)) → Q us
led Q t ts [] l f = absurd l
led Q t ts (u ∷ us) l f = f u us l.0 l.1

-- a tree that spells the tokens up to a rest that is like this one
pub record Found {A : Type 0} (P : A → Tokens → Tokens → Type 0) (us rest : Tokens) : Type 0 where
  pub tree : A
  pub behind : Tokens
  pub stands : P tree us behind
  pub like : Like rest behind

-- the same up to a token of this word
pub record Marked {A : Type 0} (P : A → Tokens → Tokens → Type 0) (w : Word) (us rest : Tokens) : Type 0 where
  pub tree : A
  pub mark : Token
  pub behind : Tokens
  pub stands : P tree us (mark ∷ behind)
  pub word_is : word_of mark ≡ w
  pub like : Like rest behind

pub marked : {A : Type 0} (P : A → Tokens → Tokens → Type 0) (w : Word) (q : Token) (us rest : Tokens) → word_of q ≡ w → Found P us (q ∷ rest) → Marked P w us rest
marked P w q us rest h f =
    led (λ z. P f.tree us z → Marked P w us rest) q rest f.behind f.like
    (λ m vs s l d. record { tree = f.tree; mark = m; behind = vs; stands = d; word_is = of_word q m w s h; like = l }) f.stands
