-- The values beside the trail.
use Rattle.std.specs.Prelude.{◌≡◌, ℕ, ◌<◌, ◌≤◌, Bool, List, Option, Some, None, slice_get, slice_index_or, reverse, All, length}
use Rattle.std.specs.List.{count_by}
use Rattle.std.specs.Option.{is_none}
use Rattle.cnf_core.specs.declared.lit.Lit.{Lit}
use Rattle.cnf_core.specs.declared.standing.Standing.TheVariants.{Falsified}
use Rattle.cnf_core.specs.Lit.{variable_of}
use Rattle.cnf_core.specs.Values.{Values, standing_of}
use Rattle.sat_core.specs.declared.trail.Mark.{Mark}
use Rattle.sat_core.specs.Trail.{assigned, IsTrail, before_decision}

abbrev pub reads : List (Option Bool) → Values
reads vs = λ x. slice_index_or vs x None

abbrev pub Fits : ℕ → List Lit → Type 0
Fits n c = All (λ l. variable_of l < n) c

-- how many variables have no value
abbrev pub open_count : List (Option Bool) → ℕ
open_count vs = count_by is_none vs

pub record IsSynced (cs : List (List Lit)) (leaves : ℕ) (marks : List Mark) (values : List (Option Bool)) : Type 0 where
  pub values_are : reads values ≡ assigned (reverse marks)
  pub trail : IsTrail cs leaves (reverse marks)
  pub marks_fit : All (λ m. variable_of m.lit < length values) marks
  pub reasons : All (λ m. m.reason ≤ length cs) marks

pub record IsConflict (cs : List (List Lit)) (a : Values) (k : ℕ) : Type 0 where
  pub clause : List Lit
  pub there : slice_get cs k ≡ Some clause
  pub falsified : standing_of a clause ≡ Falsified

-- the trail grew by forced literals alone
pub record Grew (cs : List (List Lit)) (leaves : ℕ) (marks : List Mark) (values : List (Option Bool)) (marks' : List Mark) (values' : List (Option Bool)) : Type 0 where
  pub synced : IsSynced cs leaves marks' values'
  pub decision : before_decision (reverse marks') ≡ before_decision (reverse marks)
  pub fewer : open_count values' ≤ open_count values
