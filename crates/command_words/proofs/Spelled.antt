-- The words of a line: its options with their values, and then its files.
use Rattle.std.proofs.Common.{◌≡◌, ◌==◌, ◌&&◌, ◌∙◌, ◌++◌, ℕ, Bool, true, false, not, List, [], ◌∷◌, Option, Some, None, refl, sym, ap, ap₂, subst, if◌then◌else◌, option_map}
use Rattle.std.specs.Bool.{⊤}
use Rattle.std.specs.List.{list_all}
use Rattle.std.proofs.lemmas.Bool.{eqb-true, false≢true}
use Rattle.command_words.specs.Words.{Line, Pair, Text, before, files_alone, is_among, is_plain, line_of, name_in, option_in, with_pair}
use Rattle.command_words.proofs.Rows.{Each, and_parts}

abbrev pub words_of : List Pair → List Text
words_of [] = []
words_of (p ∷ ps) = (45 ∷ 45 ∷ p.option) ∷ p.value ∷ words_of ps

-- the pair has an option of these names, and a value that may stand
pub record IsAllowed (names : List Text) (p : Pair) : Type 0 where
  pub among : is_among names p.option ≡ true
  pub plain : is_plain p.value ≡ true

pub record IsSpelled (names given : List Text) (l : Line) : Type 0 where
  pub words : given ≡ words_of l.pairs ++ l.files
  pub pairs : Each (IsAllowed names) l.pairs
  pub files : list_all is_plain l.files ≡ true

pub some_is : {X : Type 0} (x y : X) → Some x ≡ Some y → x ≡ y
some_is x y e = cc

pub none_some : {X : Type 0} {P : Type 0} (x : X) → None ≡ Some x → P
none_some x e = absurd cc

alone : (names files : List Text) (l : Line) → files_alone files ≡ Some l → IsSpelled names files l
alone names files l e = go (list_all is_plain files) refl e
  where
    go : (b : Bool) → list_all is_plain files ≡ b → (if b then Some (record { pairs = []; files = files }) else None) ≡ Some l → IsSpelled names files l
    go true all h = subst (IsSpelled names files) (some_is (record { pairs = []; files = files }) l h) (record { words = refl; pairs = tt; files = all })
    go false all h = none_some l h

name_word : (word name : Text) → name_in word ≡ Some name → word ≡ 45 ∷ 45 ∷ name
name_word [] name e = none_some name e
name_word (a ∷ []) name e = none_some name e
name_word (a ∷ b ∷ rest) name e = go (a == 45) refl (b == 45) refl e
  where
    go : (s : Bool) → (a == 45) ≡ s → (t : Bool) → (b == 45) ≡ t → (if s && t then Some rest else None) ≡ Some name → (a ∷ b ∷ rest) ≡ 45 ∷ 45 ∷ name
    go true first true second h =
        ap (λ (x : ℕ). x ∷ b ∷ rest) (eqb-true a 45 first) ∙ ap (λ (x : ℕ). 45 ∷ x ∷ rest) (eqb-true b 45 second) ∙ ap (λ (x : Text). 45 ∷ 45 ∷ x) (some_is rest name h)
    go true first false second h = none_some name h
    go false first t second h = none_some name h

spelled_more : (names : List Text) (word name value : Text) (rest : List Text) (l : Line) → word ≡ 45 ∷ 45 ∷ name → is_among names name ≡ true → is_plain value ≡ true
    → IsSpelled names rest l → IsSpelled names (word ∷ value ∷ rest) (with_pair name value l)
spelled_more names word name value rest l is among plain s = record {
  words = ap₂ (λ (w : Text) (ws : List Text). w ∷ value ∷ ws) is s.words;
  pairs = (record { among = among; plain = plain }, s.pairs);
  files = s.files;
}

module _ (names : List Text) (word value : Text) (rest : List Text) (l : Line) (more : (k : Line) → line_of names rest ≡ Some k → IsSpelled names rest k) where
  with_line : (name : Text) → word ≡ 45 ∷ 45 ∷ name → is_among names name ≡ true → is_plain value ≡ true → (o : Option Line) → line_of names rest ≡ o
      → option_map (with_pair name value) o ≡ Some l → IsSpelled names (word ∷ value ∷ rest) l
  with_line name is among plain None e h = none_some l h
  with_line name is among plain (Some k) e h =
      subst (IsSpelled names (word ∷ value ∷ rest)) (some_is (with_pair name value k) l h) (spelled_more names word name value rest k is among plain (more k e))

  with_value : (name : Text) → word ≡ 45 ∷ 45 ∷ name → is_among names name ≡ true → (b : Bool) → is_plain value ≡ b
      → (if b then option_map (with_pair name value) (line_of names rest) else None) ≡ Some l → IsSpelled names (word ∷ value ∷ rest) l
  with_value name is among true e h = with_line name is among e (line_of names rest) refl h
  with_value name is among false e h = none_some l h

  with_name : (name : Text) → word ≡ 45 ∷ 45 ∷ name → (b : Bool) → is_among names name ≡ b
      → before (if b then Some name else None) value (line_of names rest) ≡ Some l → IsSpelled names (word ∷ value ∷ rest) l
  with_name name is true e h = with_value name is e (is_plain value) refl h
  with_name name is false e h = none_some l h

  with_option : (o : Option Text) → name_in word ≡ o → before (option_in names o) value (line_of names rest) ≡ Some l → IsSpelled names (word ∷ value ∷ rest) l
  with_option None e h = none_some l h
  with_option (Some name) e h = with_name name (name_word word name e) (is_among names name) refl h

  pub with_word : (b : Bool) → (if b then files_alone (word ∷ value ∷ rest) else before (option_in names (name_in word)) value (line_of names rest)) ≡ Some l
      → IsSpelled names (word ∷ value ∷ rest) l
  with_word true h = alone names (word ∷ value ∷ rest) l h
  with_word false h = with_option (name_in word) refl h

pub spelled : (names words : List Text) (l : Line) → line_of names words ≡ Some l → IsSpelled names words l
spelled names [] l e = alone names [] l e
spelled names (w ∷ []) l e = alone names (w ∷ []) l e
spelled names (word ∷ value ∷ rest) l e = with_word names word value rest l (spelled names rest) (is_plain word) e
