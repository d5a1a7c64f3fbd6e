-- How a search ends.
use Rattle.std.specs.Prelude.{◌≡◌, ℕ, ◌<◌, ◌≤◌, Bool, List, Option, Some, None, reverse}
use Rattle.cnf_core.specs.declared.lit.Lit.{Lit}
use Rattle.cnf_core.specs.Values.{Values}
use Rattle.sat_core.specs.declared.trail.Mark.{Mark}
use Rattle.sat_core.specs.declared.searching.Round.{Round}
use Rattle.sat_core.specs.declared.searching.Round.TheVariants.{Full, Conflict}
use Rattle.cnf_core.specs.Closed.{IsClosed}
use Rattle.sat_core.specs.Trail.{assigned, before_decision}
use Rattle.sat_core.specs.Sync.{reads, IsConflict, IsSynced}

pub record IsLeastOpen (leaves : ℕ) (a : Values) (x : ℕ) : Type 0 where
  pub above : 1 ≤ x
  pub leaf : x ≤ leaves
  pub none : a x ≡ None
  pub least : (y : ℕ) → 1 ≤ y → y < x → a y ≡ None → ⊥

-- nothing was left to do before the newest decision
abbrev pub ClosedIf : List (List Lit) → Option (Lit × List Mark) → Type 0
ClosedIf cs None = Unit {0}
ClosedIf cs (Some p) = IsClosed (assigned p.1) cs

abbrev pub BeforeClosed : List (List Lit) → List Mark → Type 0
BeforeClosed cs marks = ClosedIf cs (before_decision (reverse marks))

pub record IsFull (cs : List (List Lit)) (leaves : ℕ) (a : Values) : Type 0 where
  pub closed : IsClosed a cs
  pub given : (x : ℕ) → 1 ≤ x → x ≤ leaves → a x ≡ None → ⊥

abbrev pub RoundSays : List (List Lit) → ℕ → List (Option Bool) → Round → Type 0
RoundSays cs leaves values Full = IsFull cs leaves (reads values)
RoundSays cs leaves values (Conflict k) = IsConflict cs (reads values) k

-- every leaf has a value, and nothing is left to do
pub record FullTrail (cs : List (List Lit)) (leaves : ℕ) (marks : List Mark) (values : List (Option Bool)) : Type 0 where
  pub synced : IsSynced cs leaves marks values
  pub full : IsFull cs leaves (reads values)
