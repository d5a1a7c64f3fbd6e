-- What the solver's answers say.
use Rattle.std.specs.Prelude.{Option, Some, None, ◌≡◌, ℕ, ◌+◌, ◌-◌, ◌≤◌, Bool, true, false, List, [], ◌∷◌, ◌++◌, length, slice_index_or, ℤ, reverse}
use Rattle.cnf_core.specs.declared.lit.Lit.{Lit}
use Rattle.cnf_core.specs.declared.formula.Step.{Step}
use Rattle.cnf_core.specs.declared.formula.Step.TheVariants.{Add, Delete}
use Rattle.cnf_core.specs.Accepted.{numbered, is_implied, closes, denied}
use Rattle.cnf_core.specs.Lit.{variable_of}
use Rattle.cnf_core.specs.Model.{IsModel}
use Rattle.sat_core.specs.declared.solving.Outcome.{Outcome}
use Rattle.sat_core.specs.declared.solving.Outcome.TheVariants.{Sat, Unsat, Spent}
use Rattle.sat_core.specs.declared.trail.Mark.{Mark}
use Rattle.sat_core.specs.Rests.{Needs, rests}
use Rattle.cnf_core.specs.Closed.{IsFirstModel}
use Rattle.cnf_core.specs.Learned.{IsLearnedLog, RefutesWithin, Each, IsLeafLit, HoldsNone, HasClosed}

-- the value of variable i + 1 stands at place i
abbrev pub value_at : List Bool → ℕ → Bool
value_at bs x = slice_index_or bs (x - 1) false

abbrev pub learned_clauses : List Step → List (List Lit)
learned_clauses [] = []
learned_clauses (Add id c hints ∷ steps) = c ∷ learned_clauses steps
learned_clauses (Delete ids ∷ steps) = learned_clauses steps

-- a clause that may be learned after these
pub record StepOk (leaves : ℕ) (clauses : List (List Lit)) (c : List Lit) (hints : List ℤ) : Type 0 where
  pub implied : is_implied (numbered clauses) c hints ≡ true
  pub full : c ≡ [] → ⊥
  pub leaf_lits : Each (IsLeafLit leaves) c
  pub none : HoldsNone c clauses
  pub closed : HasClosed clauses c

-- a clause over decisions that a conflict gives, with its hints
pub record IsAnalysed (clauses : List (List Lit)) (leaves : ℕ) (c : List Lit) (hints : List ℤ) : Type 0 where
  pub implied : is_implied (numbered clauses) c hints ≡ true
  pub learns : (c ≡ [] → ⊥) → StepOk leaves clauses c hints

-- the clause of the decisions that a conflict rests on, refuted by the hints that go with it
pub record IsTraced (clauses : List (List Lit)) (marks : List Mark) (c : List Lit) : Type 0 where
  pub need : Needs
  pub hints : List ℤ
  pub is : c ≡ (rests clauses need (reverse marks)).clause
  pub closes_it : closes (numbered clauses) (denied c) hints ≡ true

abbrev pub as_true : Option Bool → Bool
as_true None = false
as_true (Some b) = b

-- literals of the variables 1 to n alone
abbrev pub InRange : ℕ → List (List Lit) → Type 0
InRange n [] = Unit {0}
InRange n (c ∷ cs) = Each (λ l. (1 ≤ variable_of l) × (variable_of l ≤ n)) c × InRange n cs

-- the steps of a log have the ids after those of the clauses
abbrev pub InOrder : ℕ → List Step → Type 0
InOrder last [] = Unit {0}
InOrder last (Add id c hints ∷ steps) = (id ≡ last + 1) × InOrder (last + 1) steps
InOrder last (Delete ids ∷ steps) = ⊥

-- the solver's state between two rounds
pub record Ready (cs clauses : List (List Lit)) (leaves : ℕ) (log : List Step) : Type 0 where
  pub are : clauses ≡ cs ++ learned_clauses log
  pub learned : IsLearnedLog cs leaves log
  pub order : InOrder (length cs) log
  pub implied : (w : ℕ → Bool) → IsModel w cs → IsModel w clauses

-- what an answer for these clauses, variables, leaves and budget says
abbrev pub OutcomeSays : List (List Lit) → ℕ → ℕ → ℕ → Outcome → Type 0
OutcomeSays cs variables leaves budget (Sat values) = IsFirstModel cs leaves (value_at values) × (length values ≡ variables)
OutcomeSays cs variables leaves budget (Unsat log) = RefutesWithin cs leaves budget log × InOrder (length cs) log
OutcomeSays cs variables leaves budget (Spent log) = IsLearnedLog cs leaves log × (length log ≡ budget) × InOrder (length cs) log
