-- Tests on words.
use Rattle.std.proofs.Common.{◌≡◌, Bool, true, false, ◌&&◌, if◌then◌else◌, List, [], ◌∷◌, refl, ap, sym, ◌∙◌, rules}
use denote.Enum.Bare.{true_same, same_true}
use Rattle.vl_tree.specs.contracts.words.Word.{the_type}
use Rattle.vl_tree.specs.declared.words.Word.{Word}
use Rattle.vl_tree.specs.declared.words.Word.TheVariants as word
use Rattle.vl_tree.specs.Words.{same_word}
use Rattle.vl_tree.specs.AllWords.{words, all_of, all}

pub same_refl : (w : Word) → same_word w w ≡ true
unfolding same_word
same_refl w = true_same the_type w w refl

pub same_ok : (a b : Word) → same_word a b ≡ true → a ≡ b
unfolding same_word
same_ok a b h = same_true the_type (search rules) a b h

and_first : (a b : Bool) → (a && b) ≡ true → a ≡ true
and_first true b h = refl
and_first false b h = cc

and_second : (a b : Bool) → (a && b) ≡ true → b ≡ true
and_second true b h = h
and_second false b h = cc

same_is : (w v : Word) (f : Word → Bool) (b : Bool) → same_word w v ≡ b → f v ≡ true → (b ≡ false → f w ≡ true) → f w ≡ true
same_is w v f true is h go = ap f (same_ok w v is) ∙ h
same_is w v f false is h go = go refl

abbrev among : Word → List Word → Bool
among w [] = false
among w (v ∷ vs) = if same_word w v then true else among w vs

among_later : (w v : Word) (vs : List Word) → same_word w v ≡ false → among w (v ∷ vs) ≡ true → among w vs ≡ true
among_later w v vs is h = sym (rw is) ∙ h

one_of : (f : Word → Bool) (w : Word) (vs : List Word) → all_of f vs ≡ true → among w vs ≡ true → f w ≡ true
one_of f w [] h k = cc
one_of f w (v ∷ vs) h k = same_is w v f (same_word w v) refl (and_first (f v) (all_of f vs) h) (λ is. one_of f w vs (and_second (f v) (all_of f vs) h) (among_later w v vs is k))

among_all : (w : Word) → among w words ≡ true
unfolding same_word
among_all word.EndOfTokens = refl
among_all _ = refl

-- what holds of all words holds of each
pub at_word : (f : Word → Bool) (w : Word) → all f ≡ true → f w ≡ true
at_word f w h = one_of f w words h (among_all w)
