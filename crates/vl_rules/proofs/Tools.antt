-- Tools for laws about readers, words and truth values.
use Rattle.std.proofs.Common.{◌≡◌, Bool, true, false, not, ◌&&◌, ◌||◌, if◌then◌else◌, List, [], ◌∷◌, Some, None, refl, ap, sym, ◌∙◌, subst, rules}
use denote.Enum.Bare.{true_same, same_true}
use Rattle.vl_tree.specs.contracts.words.Word.{the_type}
use Rattle.vl_tree.specs.declared.tokens.Token.{Token}
use Rattle.vl_tree.specs.declared.words.Word.{Word}
use Rattle.vl_tree.specs.declared.words.Word.TheVariants as word
use Rattle.vl_tree.specs.Words.{word_of, same_word}
use Rattle.vl_grammar.specs.Read.{Tokens, Outcome, Parser, and_then, expect}
use Rattle.vl_tree.specs.AllWords.{all}
use Rattle.vl_tree.proofs.WordLaws.{at_word as listed}

abbrev pub got : {A : Type 0} → A → Tokens → Outcome A
got x us = Some (x, us)

pub record Split {A B : Type 0} (o : Outcome A) (f : A → Parser B) (y : B × Tokens) : Type 0 where
  pub value : A
  pub behind : Tokens
  pub was : o ≡ Some (value, behind)
  pub goes : f value behind ≡ Some y

pub split : {A B : Type 0} (o : Outcome A) (f : A → Parser B) (y : B × Tokens) → and_then o f ≡ Some y → Split o f y
split (Some p) f y h = record { value = p.0; behind = p.1; was = refl; goes = h }
split None f y h = cc

abbrev at_some : {A : Type 0} → (A → Tokens → Type 0) → Outcome A → Type 0
at_some P (Some p) = P p.0 p.1
at_some P None = Unit {0}

pub carry : {A : Type 0} (P : A → Tokens → Type 0) (x t : A) (us rest : Tokens) → got x us ≡ got t rest → P x us → P t rest
carry P x t us rest h p = subst (at_some P) h p

-- the same tree and the same tokens
pub both : {A : Type 0} (a x : A) (ts rest : Tokens) → a ≡ x → ts ≡ rest → got a ts ≡ got x rest
both a x ts rest h k = subst (λ z. got a ts ≡ got z rest) h (ap (λ z. got a z) k)

pub same_refl : (w : Word) → same_word w w ≡ true
unfolding same_word
same_refl w = true_same the_type w w refl

pub same_ok : (a b : Word) → same_word a b ≡ true → a ≡ b
unfolding same_word
same_ok a b h = same_true the_type (search rules) a b h

pub expected_by : (w : Word) (a t : Token) (ts us : Tokens) (b : Bool) → same_word (word_of a) w ≡ b → (if b then got a ts else None) ≡ got t us → (a ∷ ts ≡ t ∷ us) × (word_of t ≡ w)
expected_by w a t ts us true is h = carry (λ t us. (a ∷ ts ≡ t ∷ us) × (word_of t ≡ w)) a t ts us h (refl, same_ok (word_of a) w is)
expected_by w a t ts us false is h = cc

pub expect_ok : (w : Word) (ts us : Tokens) (t : Token) → expect w ts ≡ got t us → (ts ≡ t ∷ us) × (word_of t ≡ w)
expect_ok w [] us t h = cc
expect_ok w (a ∷ ts) us t h = expected_by w a t ts us (same_word (word_of a) w) refl h

expect_first : (w : Word) (t : Token) (us : Tokens) → word_of t ≡ w → expect w (t ∷ us) ≡ got t us
expect_first w t us h = rw (h, same_refl w)

pub expect_again : (w : Word) (ts us : Tokens) (t : Token) → ts ≡ t ∷ us → word_of t ≡ w → expect w ts ≡ got t us
expect_again w ts us t is h = ap (expect w) is ∙ expect_first w t us h

-- Truth values

pub or_left : (a b : Bool) → a ≡ true → (a || b) ≡ true
or_left true b h = refl
or_left false b h = cc

pub or_right : (a b : Bool) → b ≡ true → (a || b) ≡ true
or_right true b h = refl
or_right false b h = h

pub and_both : (a b : Bool) → a ≡ true → b ≡ true → (a && b) ≡ true
and_both true b h k = k
and_both false b h k = cc

pub and_first : (a b : Bool) → (a && b) ≡ true → a ≡ true
and_first true b h = refl
and_first false b h = cc

pub and_second : (a b : Bool) → (a && b) ≡ true → b ≡ true
and_second true b h = h
and_second false b h = cc

pub nor_first : (a b : Bool) → (a || b) ≡ false → a ≡ false
nor_first true b h = cc
nor_first false b h = refl

pub nor_second : (a b : Bool) → (a || b) ≡ false → b ≡ false
nor_second true b h = cc
nor_second false b h = h

-- of two of which not both are so
pub nand_first : (a b : Bool) → (a && b) ≡ false → b ≡ true → a ≡ false
nand_first true b h k = cc
nand_first false b h k = refl

pub not_true : (a : Bool) → not a ≡ true → a ≡ false
not_true true h = cc
not_true false h = refl

pub never : {A : Type 0} (a : Bool) → a ≡ true → a ≡ false → A
never a h k = cc

-- All words

pub at_word : (f : Word → Bool) → all f ≡ true → (w : Word) → f w ≡ true
at_word f h w = listed f w h
