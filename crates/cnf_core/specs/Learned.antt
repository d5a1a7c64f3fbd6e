-- Learned logs: clauses over leaves alone, each with a closed assignment; and refutations within a budget.
use Rattle.std.specs.Prelude.{◌≡◌, ℕ, ◌<◌, ◌≤◌, true, List, [], ◌∷◌, ◌++◌, None, ◌⊎◌, length, ℤ}
use Rattle.cnf_core.specs.declared.lit.Lit.{Lit}
use Rattle.cnf_core.specs.declared.formula.Step.{Step}
use Rattle.cnf_core.specs.declared.formula.Step.TheVariants.{Add, Delete}
use Rattle.cnf_core.specs.Lit.{variable_of, is_positive}
use Rattle.cnf_core.specs.Values.{Values, is_false}
use Rattle.cnf_core.specs.Accepted.{Clauses, numbered, with_clause, is_accepted, all_accepted}
use Rattle.cnf_core.specs.Closed.{IsClosed}

-- P of each literal of the clause
abbrev pub Each : (Lit → Type 0) → List Lit → Type 0
Each P [] = Unit {0}
Each P (l ∷ ls) = P l × Each P ls

abbrev pub Among : Lit → List Lit → Type 0
Among l [] = ⊥
Among l (k ∷ ks) = (l ≡ k) ⊎ Among l ks

pub record IsLeafLit (leaves : ℕ) (l : Lit) : Type 0 where
  pub positive : is_positive l ≡ true
  pub above : 1 ≤ variable_of l
  pub leaf : variable_of l ≤ leaves

-- the values make every literal of c false but that of the greatest leaf, which is open
pub record HasClosed (clauses : List (List Lit)) (c : List Lit) : Type 0 where
  pub values : Values
  pub closed : IsClosed values clauses
  pub greatest : Lit
  pub there : Among greatest c
  pub open_there : values (variable_of greatest) ≡ None
  pub rest : Each (λ l. (l ≡ greatest) ⊎ ((variable_of l < variable_of greatest) × (is_false values l ≡ true))) c

-- c contains d
abbrev pub Holds : List Lit → List Lit → Type 0
Holds c d = Each (λ l. Among l c) d

abbrev pub HoldsNone : List Lit → List (List Lit) → Type 0
HoldsNone c [] = Unit {0}
HoldsNone c (d ∷ ds) = (Holds c d → ⊥) × HoldsNone c ds

-- the steps of a learned log from clauses on, of which `earlier` were learned
abbrev pub IsLearned : Clauses → ℕ → List (List Lit) → List (List Lit) → ℕ → List Step → Type 0
IsLearned db last clauses earlier leaves [] = Unit {0}
IsLearned db last clauses earlier leaves (Delete ids ∷ steps) = ⊥
IsLearned db last clauses earlier leaves (Add id c hints ∷ steps) =
    (is_accepted db last id c hints ≡ true) × (c ≡ [] → ⊥) × Each (IsLeafLit leaves) c
    × HoldsNone c earlier × HasClosed clauses c
    × IsLearned (with_clause db id c) id (clauses ++ c ∷ []) (earlier ++ c ∷ []) leaves steps

-- a learned log for the formula, over the leaves 1 to m
abbrev pub IsLearnedLog : List (List Lit) → ℕ → List Step → Type 0
IsLearnedLog cs leaves log = IsLearned (numbered cs) (length cs) cs [] leaves log

-- a learned log of at most `budget` clauses, then one empty addition, all of it accepted
pub record RefutesWithin (cs : List (List Lit)) (leaves budget : ℕ) (log : List Step) : Type 0 where
  pub steps : List Step
  pub learned : IsLearnedLog cs leaves steps
  pub few : length steps ≤ budget
  pub ends : (id : ℕ) × (hints : List ℤ) × (log ≡ steps ++ Add id [] hints ∷ [])
  pub accepted : all_accepted (numbered cs) (length cs) log ≡ true
