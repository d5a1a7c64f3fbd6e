-- Which step of a log is the first that is refused.
use Rattle.std.specs.Prelude.{◌≡◌, ◌≢◌, ◌↔◌, ◌⊎◌, ℕ, suc, true, false, List, [], ◌∷◌, ◌++◌, length}
use Rattle.cnf_core.specs.declared.lit.Lit.{Lit}
use Rattle.cnf_core.specs.declared.formula.Step.{Step}
use Rattle.cnf_core.specs.declared.formula.Step.TheVariants.{Add, Delete}
use Rattle.cnf_core.specs.Accepted.{Clauses, numbered, with_clause, without, is_accepted, has_empty}
use Rattle.lrat_checker.specs.declared.answer.Checked.TheVariants.{Rejected}
use Rattle.lrat_checker.specs.Verdict.{verdict_of}

-- the clauses that a step leaves
abbrev pub after_step : Clauses → Step → Clauses
after_step db (Delete ids) = without db ids
after_step db (Add id lits hints) = with_clause db id lits

-- the last id that an addition took
abbrev pub last_with : ℕ → Step → ℕ
last_with last (Delete ids) = last
last_with last (Add id lits hints) = id

abbrev pub after_steps : Clauses → List Step → Clauses
after_steps db [] = db
after_steps db (s ∷ ss) = after_steps (after_step db s) ss

abbrev pub last_after : ℕ → List Step → ℕ
last_after last [] = last
last_after last (s ∷ ss) = last_after (last_with last s) ss

-- a deletion, or an addition of a clause with literals that is accepted
abbrev pub GoesOn : Clauses → ℕ → Step → Type 0
GoesOn db last (Delete ids) = Unit {0}
GoesOn db last (Add id lits hints) = (is_accepted db last id lits hints ≡ true) × (lits ≢ [])

abbrev pub AllGoOn : Clauses → ℕ → List Step → Type 0
AllGoOn db last [] = Unit {0}
AllGoOn db last (s ∷ ss) = GoesOn db last s × AllGoOn (after_step db s) (last_with last s) ss

-- an addition that is not accepted
abbrev pub IsRefused : Clauses → ℕ → Step → Type 0
IsRefused db last (Delete ids) = ⊥
IsRefused db last (Add id lits hints) = is_accepted db last id lits hints ≡ false

-- the steps `front` go on, and then the log is at its end, or its next step is refused, which is the step k counted from 1
pub record IsFirstRefused (cs : List (List Lit)) (log : List Step) (k : ℕ) : Type 0 where
  pub front : List Step
  pub behind : List Step
  pub are : log ≡ front ++ behind
  pub full : has_empty cs ≡ false
  pub go_on : AllGoOn (numbered cs) (length cs) front
  pub refused : (behind ≡ []) ⊎ ((step : Step) × (rest : List Step) × (behind ≡ step ∷ rest) × IsRefused (after_steps (numbered cs) front) (last_after (length cs) front) step)
  pub number : suc (length front) ≡ k

-- the checker names the first step that is refused, or one past the last
abbrev pub RejectedAtTheFirst : Type 0
RejectedAtTheFirst = (cs : List (List Lit)) (log : List Step) (k : ℕ) → IsFirstRefused cs log k ↔ (verdict_of cs log ≡ Rejected k)
