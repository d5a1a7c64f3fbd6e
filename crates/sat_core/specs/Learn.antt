-- How the clauses come to be watched.
use Rattle.std.specs.Prelude.{◌≡◌, ℕ, ◌+◌, Bool, true, false, List, [], Option, Some, None, reverse, slice_get, ◌⊎◌}
use Rattle.cnf_core.specs.declared.lit.Lit.{Lit}
use Rattle.cnf_core.specs.Learned.{Among, Each}
use Rattle.cnf_core.specs.Values.{is_true}
use Rattle.sat_core.specs.declared.trail.Trail.{Trail}
use Rattle.sat_core.specs.declared.watching.Pair.{Pair}
use Rattle.sat_core.specs.declared.watching.Watches.{Watches}
use Rattle.sat_core.specs.Sync.{reads, IsSynced, IsConflict}
use Rattle.sat_core.specs.Trail.{before_decision}
use Rattle.sat_core.specs.Watch.{IsHeld}

-- two different literals of the clause, or the only one twice
pub record IsPair (c : List Lit) (p : Pair) : Type 0 where
  pub first : Among p.first c
  pub second : Among p.second c
  pub alone : p.first ≡ p.second → Each (λ l. l ≡ p.first) c

abbrev pub PairSays : List Lit → Option Pair → Type 0
PairSays c None = c ≡ []
PairSays c (Some p) = IsPair c p

-- a pair for the clause at a place
pub record IsPairAt (cs : List (List Lit)) (k : ℕ) (p : Pair) : Type 0 where
  pub clause : List Lit
  pub there : slice_get cs k ≡ Some clause
  pub pair : IsPair clause p

-- the first clauses are watched, no decision is made and nothing is propagated
pub record IsBegun (cs : List (List Lit)) (leaves size count : ℕ) (t : Trail) (w : Watches) : Type 0 where
  pub held : IsHeld cs leaves size count t w
  pub undecided : before_decision (reverse t.marks) ≡ None
  pub first : t.done ≡ 0

-- a clause is falsified before any decision
pub record IsRefuted (cs : List (List Lit)) (leaves size : ℕ) (t : Trail) (k : ℕ) : Type 0 where
  pub synced : IsSynced cs leaves t.marks t.values.items
  pub undecided : before_decision (reverse t.marks) ≡ None
  pub conflict : IsConflict cs (reads t.values.items) k

abbrev pub BeginSays : List (List Lit) → ℕ → ℕ → ℕ → Trail → Watches → Bool → Type 0
BeginSays cs leaves size k t w true = IsRefuted cs leaves size t k
BeginSays cs leaves size k t w false = IsBegun cs leaves size (k + 1) t w

abbrev pub SettleSays : List (List Lit) → ℕ → ℕ → ℕ → Trail → Watches → Pair → Bool → Type 0
SettleSays cs leaves size k t w p true = IsRefuted cs leaves size t k
SettleSays cs leaves size k t w p false = IsBegun cs leaves size k t w × ((p.first ≡ p.second → ⊥) ⊎ (is_true (reads t.values.items) p.first ≡ true))
