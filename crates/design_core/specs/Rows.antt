-- Rows over bits: when one breaks, when a design lets it break or meets conditions, and what kind of row it is.
use Rattle.std.specs.Prelude.{◌≡◌, ℕ, ◌+◌, ◌<◌, ◌≤◌, Bool, true, false, not, List, take, drop, Option, Some, None}
use Rattle.design_core.specs.Cells.{Bitmap, Cell, In, driven, IsLawful, IsOrdered, IsTrace}

-- pairs of a source bit and a destination bit, lowest first, the latency, and bits with the values that the conditions want
pub record Row (B : Type 0) : Type 0 where
  pub pairs : List (B × B)
  pub latency : ℕ
  pub conditions : List (B × Bool)

-- all conditions hold in each cycle from the launch to the launch plus the latency, and some destination bit at the end differs from its source bit at the launch
pub record Breaks {B : Type 0} (row : Row B) (launch : ℕ) (σ : ℕ → Bitmap B) : Type 0 where
  pub met : (k : ℕ) → k ≤ row.latency → (c : B × Bool) → In c row.conditions → σ (launch + k) c.0 ≡ c.1
  pub pair : B × B
  pub is_one : In pair row.pairs
  pub differs : σ (launch + row.latency) pair.1 ≡ not (σ launch pair.0)

-- bit k of a row, as a row of one bit
abbrev pub row_bit : {B : Type 0} → Row B → ℕ → Row B
row_bit row k = record { pairs = take 1 (drop k row.pairs); latency = row.latency; conditions = row.conditions }

-- the bits that a row names are among R
pub record IsAmong {B : Type 0} (R : B → Bool) (row : Row B) : Type 0 where
  pub pairs_in : (p : B × B) → In p row.pairs → (R p.0 ≡ true) × (R p.1 ≡ true)
  pub conditions_in : (c : B × Bool) → In c row.conditions → R c.0 ≡ true

-- where traces begin: windows anywhere, runs with the stored bits of power-up
abbrev pub Begins : {B : Type 0} → List (Cell B) → Option (Bitmap B) → Bitmap B → Type 0
Begins E None s = Unit {0}
Begins {B = B} E (Some p) s = (c : Cell B) → In c E → (b : B) → c.drives b ≡ true → c.clocked ≡ true → s b ≡ p b

-- all conditions hold in each cycle up to the last
abbrev pub Meets : {B : Type 0} → List (B × Bool) → ℕ → (ℕ → Bitmap B) → Type 0
Meets {B = B} conditions last σ = (k : ℕ) → k ≤ last → (c : B × Bool) → In c conditions → σ k c.0 ≡ c.1

-- what is sought: that a row breaks at a launch, or that conditions hold in each of the cycles 0 to last
pub data Query (B : Type 0) : Type 0 where
  breaks : Row B → ℕ → Query B
  meets : List (B × Bool) → ℕ → Query B

-- the last cycle that it looks at
abbrev pub last_of : {B : Type 0} → Query B → ℕ
last_of (breaks row launch) = launch + row.latency
last_of (meets conditions last) = last

-- the assignments have what is sought
abbrev pub Hits : {B : Type 0} → Query B → (ℕ → Bitmap B) → Type 0
Hits (breaks row launch) σ = Breaks row launch σ
Hits (meets conditions last) σ = Meets conditions last σ

-- the bits that it names are among R
abbrev pub IsAbout : {B : Type 0} → (B → Bool) → Query B → Type 0
IsAbout R (breaks row launch) = IsAmong R row
IsAbout {B = B} R (meets conditions last) = (c : B × Bool) → In c conditions → R c.0 ≡ true

-- some window, or with power-up values some run, has what is sought
pub record CanHit {B : Type 0} (E : List (Cell B)) (held : ℕ → B → Option Bool) (power_up : Option (Bitmap B)) (query : Query B) : Type 0 where
  pub s : ℕ → Bitmap B
  pub σ : ℕ → Bitmap B
  pub trace : IsTrace E held (last_of query) s σ
  pub begins : Begins E power_up (s 0)
  pub hits : Hits query σ

-- some window, or with power-up values some run, breaks the row at this launch
abbrev pub CanBreak : {B : Type 0} → List (Cell B) → (ℕ → B → Option Bool) → Option (Bitmap B) → Row B → ℕ → Type 0
CanBreak E held power_up row launch = CanHit E held power_up (breaks row launch)

-- some window meets the conditions in each of the cycles 0 to last
abbrev pub CanMeet : {B : Type 0} → List (Cell B) → (ℕ → B → Option Bool) → List (B × Bool) → ℕ → Type 0
CanMeet E held conditions last = CanHit E held None (meets conditions last)

-- no window breaks it
abbrev pub IsValid : {B : Type 0} → List (Cell B) → (ℕ → B → Option Bool) → Row B → Type 0
IsValid E held row = ¬ CanBreak E held None row 0

-- a design that was checked, with held bits that are inputs
pub record IsChecked {B : Type 0} (E : List (Cell B)) (held : ℕ → B → Option Bool) : Type 0 where
  pub ordered : IsOrdered E
  pub lawful : (c : Cell B) → In c E → IsLawful c
  pub free : (k : ℕ) (b : B) (v : Bool) → held k b ≡ Some v → driven E b ≡ false

-- what may be said of a row
pub data Kind : Type 0 where
  proved : Kind
  refuted : ℕ → Kind
  «open» : Kind

-- proved where no window breaks the row; refuted at the earliest launch from `first` on at which some run breaks it, `depth` launches past the first at most; else open
abbrev pub IsKind : {B : Type 0} → List (Cell B) → (ℕ → B → Option Bool) → (ℕ → B → Option Bool) → Bitmap B → Row B → ℕ → ℕ → Kind → Type 0
IsKind E window run power_up row first depth proved = IsValid E window row
IsKind E window run power_up row first depth (refuted t) = (first ≤ t) × (t ≤ first + depth) × CanBreak E run (Some power_up) row t
    × ((u : ℕ) → first ≤ u → u < t → ¬ CanBreak E run (Some power_up) row u)
IsKind E window run power_up row first depth «open» = CanBreak E window None row 0
    × ((u : ℕ) → first ≤ u → u ≤ first + depth → ¬ CanBreak E run (Some power_up) row u)
