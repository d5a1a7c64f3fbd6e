-- The modules of a list of tokens, and where there are none.
use Rattle.std.specs.Prelude.{◌≡◌, if◌then◌else◌, List, [], ◌∷◌, ◌++◌}
use Rattle.vl_tree.specs.declared.tokens.Token.{Token}
use Rattle.vl_tree.specs.declared.words.Word.TheVariants as word
use Rattle.vl_tree.specs.declared.modules.Module.{Module}
use Rattle.vl_tree.specs.Words.{word_of, same_word}
use Rattle.vl_grammar.specs.Read.{Tokens}
use Rattle.vl_rules.specs.Modules.{module_form, Stands}

abbrev pub into_first : Token → List Tokens → List Tokens
into_first t [] = (t ∷ []) ∷ []
into_first t (p ∷ ps) = (t ∷ p) ∷ ps

-- the tokens, cut after each word `endmodule`
abbrev pub cut : Tokens → List Tokens
cut [] = []
cut (t ∷ ts) = if same_word (word_of t) word.EndModule then (t ∷ []) ∷ cut ts else into_first t (cut ts)

-- each part is spelled by its module
abbrev pub Spelled : List Module → List Tokens → Type 0
Spelled [] [] = Unit {0}
Spelled (m ∷ ms) (p ∷ ps) = Stands module_form m p [] × Spelled ms ps
Spelled _ _ = ⊥

-- the token is the first of the first part that no module spells
pub record Breaks (parts : List Tokens) (t : Token) : Type 0 where
  pub front : List Tokens
  pub modules : List Module
  pub spelled : Spelled modules front
  pub rest : Tokens
  pub behind : List Tokens
  pub is : parts ≡ front ++ (t ∷ rest) ∷ behind
  pub none : (m : Module) → Stands module_form m (t ∷ rest) [] → ⊥
