-- Where the mark of each variable stands, and which marks an analysis has still to look at.
use Rattle.std.specs.Prelude.{◌≡◌, ℕ, ◌+◌, ◌<◌, ◌≤◌, Bool, true, false, cond, eqb, List, [], Option, Some, None, ◌⊎◌, length, slice_index_or, suc, All}
use Rattle.std.specs.List.{sum_by}
use Rattle.cnf_core.specs.declared.lit.Lit.{Lit}
use Rattle.cnf_core.specs.Lit.{variable_of}
use Rattle.sat_core.specs.declared.trail.Mark.{Mark}
use Rattle.sat_core.specs.Rests.{has_variable, needs}

-- a mark of the variable stands at the place
pub record StandsAt (marks : List Mark) (k x : ℕ) : Type 0 where
  pub within : k < length marks
  pub of : (d : Mark) → variable_of (slice_index_or marks k d).lit ≡ x

-- some mark is of the variable
pub record HasMark (marks : List Mark) (x : ℕ) : Type 0 where
  pub place : ℕ
  pub there : StandsAt marks place x

-- the variable's place is that of a mark of this variable
abbrev pub Placed : List ℕ → List Mark → ℕ → Mark → Type 0
Placed places marks x d = (x < length places) × (slice_index_or places x 0 < length marks) × (variable_of (slice_index_or marks (slice_index_or places x 0) d).lit ≡ x)

-- so for each mark's variable
abbrev pub ArePlaces : List ℕ → List Mark → Type 0
ArePlaces places marks = (k : ℕ) (d : Mark) → k < length marks → Placed places marks (variable_of (slice_index_or marks k d).lit) d

-- the literals of the reason of a mark are of its variable, or of marks before it
abbrev pub RestBelow : List (List Lit) → List Mark → Type 0
RestBelow cs marks = (k r : ℕ) (d : Mark) → k < length marks → (slice_index_or marks k d).reason ≡ suc r → (x : ℕ) → has_variable (slice_index_or cs r []) x ≡ true →
    (x ≡ variable_of (slice_index_or marks k d).lit) ⊎ ((j : ℕ) × (j < k) × StandsAt marks j x)

-- how often a place is on a list
abbrev pub times : ℕ → List ℕ → ℕ
times k ks = sum_by (λ j. cond (eqb j k) 1 0) ks

-- the marks below `top` that are of flagged variables wait, each once, and no others; a flagged variable has a mark below `bound`
pub record IsPending (marks : List Mark) (flags : List Bool) (waiting : List ℕ) (top bound : ℕ) : Type 0 where
  pub apart : (j k x : ℕ) → StandsAt marks j x → StandsAt marks k x → j ≡ k
  pub each : (k x : ℕ) → k < top → StandsAt marks k x → times k waiting ≡ cond (needs flags x) 1 0
  pub above : (k : ℕ) → top ≤ k → times k waiting ≡ 0
  pub known : (x : ℕ) → needs flags x ≡ true → (k : ℕ) × (k < bound) × StandsAt marks k x
  pub order : (top ≤ bound) × (bound ≤ length marks)

-- nothing is flagged, and nothing waits
pub record IsClear (flags : List Bool) (waiting : List ℕ) : Type 0 where
  pub none : (x : ℕ) → needs flags x ≡ false
  pub empty : waiting ≡ []

-- the newest of the marks that wait stands at the place, which waits no more
pub record IsNewest (marks : List Mark) (flags : List Bool) (waiting : List ℕ) (q top : ℕ) : Type 0 where
  pub below : q < top
  pub flagged : (x : ℕ) → StandsAt marks q x → needs flags x ≡ true
  pub between : (k x : ℕ) → q < k → k < top → StandsAt marks k x → needs flags x ≡ false
  pub pending : IsPending marks flags waiting q (q + 1)

-- the mark of a variable that is not flagged stands below a place
abbrev pub IsBelow : List Mark → List Bool → ℕ → ℕ → Type 0
IsBelow marks flags x top = needs flags x ≡ false → (k : ℕ) → StandsAt marks k x → k < top

-- so for each variable of the clause
abbrev pub AreBelow : List Mark → List Bool → List Lit → ℕ → Type 0
AreBelow marks flags clause top = (x : ℕ) → has_variable clause x ≡ true → IsBelow marks flags x top

-- so for each variable of the mark's reason
abbrev pub ReasonBelow : List (List Lit) → List Mark → List Bool → Mark → ℕ → Type 0
ReasonBelow cs marks flags m top = (r : ℕ) → m.reason ≡ suc r → AreBelow marks flags (slice_index_or cs r []) top

-- each variable of the mark's reason has a mark
abbrev pub ReasonMarked : List (List Lit) → List Mark → Mark → Type 0
ReasonMarked cs marks m = (r : ℕ) → m.reason ≡ suc r → All (λ l. HasMark marks (variable_of l)) (slice_index_or cs r [])

-- where the marks below a place waited as they should, and the place is high enough, they do so afterwards
abbrev pub StaysPending : List Mark → (ℕ → Type 0) → List Bool → List ℕ → List Bool → List ℕ → Type 0
StaysPending marks IsHigh flags waiting flags' waiting' = (top bound : ℕ) → IsPending marks flags waiting top bound → IsHigh top → IsPending marks flags' waiting' top bound

-- the newest of the places that waited, or that nothing did, whatever the marks
abbrev pub NewestSays : List Bool → List ℕ → List Bool → List ℕ → Option ℕ → Type 0
NewestSays flags waiting flags' waiting' None = (marks : List Mark) (top : ℕ) → IsPending marks flags waiting top top → IsClear flags' waiting'
NewestSays flags waiting flags' waiting' (Some q) = (marks : List Mark) (top : ℕ) → IsPending marks flags waiting top top → IsNewest marks flags' waiting' q top
