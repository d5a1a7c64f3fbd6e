-- Which texts spell a log in the LRAT format, and where any other text goes wrong.
use Rattle.std.specs.Prelude.{◌≡◌, ◌↔◌, ◌≤◌, ◌<◌, ◌^◌, ◌||◌, ◌⊎◌, not, ℕ, suc, ℤ, Bool, true, false, List, [], ◌∷◌, ◌++◌, length, filter, codes, Ok, Err}
use Rattle.std.specs.List.{AllZip}
use Rattle.cnf_core.specs.declared.lit.Lit.{Lit}
use Rattle.cnf_core.specs.declared.formula.Step.{Step}
use Rattle.cnf_core.specs.declared.formula.Step.TheVariants.{Add, Delete}
use Rattle.cnf_core.specs.declared.fault.TextFault.TheVariants.{Bad}
use Rattle.cnf_core.specs.Text.{text_lines, words_of, is_comment}
use Rattle.lrat_checker.specs.Lrat.{all_positive, lrat_of}
use Rattle.text_laws.specs.Numerals.{IsDecimal, EndAtZero}

-- a number from 1 to 2^63 - 1
pub record IsId (word : List ℕ) (id : ℕ) : Type 0 where
  pub says : IsDecimal word id
  pub above : 1 ≤ id
  pub small : id < 2 ^ 63

-- the clause's id, its literals and 0, its hints and 0
pub record SayAddition (words : List (List ℕ)) (id : ℕ) (lits : List Lit) (hints : List ℤ) : Type 0 where
  pub first : List ℕ
  pub rest : List (List ℕ)
  pub behind : List (List ℕ)
  pub are : words ≡ first ∷ rest
  pub id_said : IsId first id
  pub lits_said : EndAtZero (2 ^ 30) rest lits behind
  pub hints_said : EndAtZero (2 ^ 63) behind hints []

-- an id, the word `d`, the ids that are deleted and 0
pub record SayDeletion (words : List (List ℕ)) (ids : List ℤ) : Type 0 where
  pub first : List ℕ
  pub id : ℕ
  pub rest : List (List ℕ)
  pub are : words ≡ first ∷ codes "d" ∷ rest
  pub id_said : IsId first id
  pub ids_said : EndAtZero (2 ^ 63) rest ids []
  pub positive : all_positive ids ≡ true

-- the words of a line say the step
abbrev pub SayStep : List (List ℕ) → Step → Type 0
SayStep words (Add id lits hints) = SayAddition words id lits hints
SayStep words (Delete ids) = SayDeletion words ids

abbrev pub has_none : List (List ℕ) → Bool
has_none [] = true
has_none (w ∷ ws) = false

-- a comment, or a line of blanks
abbrev pub is_passed : List ℕ → Bool
is_passed line = is_comment line || has_none (words_of line)

abbrev pub SaysStep : List ℕ → Step → Type 0
SaysStep line step = SayStep (words_of line) step

-- line by line these steps, but for the lines that are passed over
abbrev pub SpellLog : List (List ℕ) → List Step → Type 0
SpellLog lines log = AllZip SaysStep (filter (λ line. not (is_passed line)) lines) log

abbrev pub Spells : List ℕ → List Step → Type 0
Spells text log = SpellLog (text_lines text) log

-- line k is the first that is not passed over and says no step
pub record IsFirstFault (text : List ℕ) (k : ℕ) : Type 0 where
  pub front : List (List ℕ)
  pub line : List ℕ
  pub behind : List (List ℕ)
  pub are : text_lines text ≡ front ++ line ∷ behind
  pub fit : (log : List Step) × SpellLog front log
  pub said : is_passed line ≡ false
  pub unfit : (step : Step) → SaysStep line step → ⊥
  pub number : suc (length front) ≡ k

-- what is read of a text is what it spells
abbrev pub ReadAsSpelled : Type 0
ReadAsSpelled = (text : List ℕ) (log : List Step) → Spells text log ↔ (lrat_of text ≡ Ok log)

-- a text is refused at its first line that says no step
abbrev pub RefusedAtItsFault : Type 0
RefusedAtItsFault = (text : List ℕ) (k : ℕ) → IsFirstFault text k ↔ (lrat_of text ≡ Err (Bad k))

-- each text spells a log or has such a line
abbrev pub SpelledOrFaulty : Type 0
SpelledOrFaulty = (text : List ℕ) → ((log : List Step) × Spells text log) ⊎ ((k : ℕ) × IsFirstFault text k)
