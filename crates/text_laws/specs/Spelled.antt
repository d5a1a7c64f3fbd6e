-- Which texts spell a formula in the DIMACS format, and where any other text goes wrong.
use Rattle.std.specs.Prelude.{◌≡◌, ◌↔◌, ◌<◌, ◌+◌, ◌^◌, ◌⊎◌, ℕ, List, [], ◌∷◌, ◌++◌, length, map, codes, Ok, Err}
use Rattle.cnf_core.specs.declared.lit.Lit.{Lit}
use Rattle.cnf_core.specs.declared.formula.Formula.{Formula}
use Rattle.cnf_core.specs.declared.fault.TextFault.TheVariants.{Bad}
use Rattle.cnf_core.specs.Text.{Word, text_lines, text_words, last_line}
use Rattle.cnf_core.specs.Dimacs.{dimacs_of}
use Rattle.text_laws.specs.Numerals.{IsDecimal, EndAtZero}

-- the bytes of words
abbrev pub bytes_of : List Word → List (List ℕ)
bytes_of words = map (λ (w : Word). w.bytes) words

-- the words say the clauses in order: literals of the variables 1 to n, and a 0 behind each clause
abbrev pub SayClauses : ℕ → List (List ℕ) → List (List Lit) → Type 0
SayClauses n words [] = words ≡ []
SayClauses n words (c ∷ cs) = (behind : List (List ℕ)) × EndAtZero (n + 1) words c behind × SayClauses n behind cs

-- `p cnf V C`, V and C below 2^30, and then C clauses of the variables 1 to V
pub record SayFormula (words : List (List ℕ)) (f : Formula) : Type 0 where
  pub variables : List ℕ
  pub count : List ℕ
  pub behind : List (List ℕ)
  pub are : words ≡ codes "p" ∷ codes "cnf" ∷ variables ∷ count ∷ behind
  pub variables_said : IsDecimal variables f.variables
  pub variables_small : f.variables < 2 ^ 30
  pub count_said : IsDecimal count (length f.clauses)
  pub count_small : length f.clauses < 2 ^ 30
  pub clauses : SayClauses f.variables behind f.clauses

-- the words of a text, those of comments left out, say the formula
abbrev pub Spells : List ℕ → Formula → Type 0
Spells text f = SayFormula (bytes_of (text_words text)) f

-- with some words more, or none, these say a formula
abbrev pub CanGoOn : List (List ℕ) → Type 0
CanGoOn words = (more : List (List ℕ)) × (f : Formula) × SayFormula (words ++ more) f

-- the first word that no formula has here stands on line k
pub record IsUnfit (text : List ℕ) (k : ℕ) : Type 0 where
  pub front : List Word
  pub word : Word
  pub behind : List Word
  pub are : text_words text ≡ front ++ word ∷ behind
  pub fit : CanGoOn (bytes_of front)
  pub unfit : CanGoOn (bytes_of front ++ word.bytes ∷ []) → ⊥
  pub line : word.line ≡ k

-- each word fits, but words are missing at the end, and the last line has the number k
pub record IsCutShort (text : List ℕ) (k : ℕ) : Type 0 where
  pub fit : CanGoOn (bytes_of (text_words text))
  pub short : (f : Formula) → Spells text f → ⊥
  pub line : last_line (text_lines text) ≡ k

-- what is read of a text is what it spells
abbrev pub ReadAsSpelled : Type 0
ReadAsSpelled = (text : List ℕ) (f : Formula) → Spells text f ↔ (dimacs_of text ≡ Ok f)

-- a text is refused at the line of its first word that does not fit, and where none is so but words are missing, at its last line
abbrev pub RefusedAtItsFault : Type 0
RefusedAtItsFault = (text : List ℕ) (k : ℕ) → (IsUnfit text k ⊎ IsCutShort text k) ↔ (dimacs_of text ≡ Err (Bad k))

-- each text spells a formula or has a fault
abbrev pub SpelledOrFaulty : Type 0
SpelledOrFaulty = (text : List ℕ) → ((f : Formula) × Spells text f) ⊎ ((k : ℕ) × (IsUnfit text k ⊎ IsCutShort text k))
