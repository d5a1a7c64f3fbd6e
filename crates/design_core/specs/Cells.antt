-- Items as cells: what they drive, what they read, and what they give. Here a design is a list of cells, and no expression is seen:
-- settled assignments, the next state, windows and runs, and slices.
use Rattle.std.specs.Prelude.{◌≡◌, ℕ, zero, suc, ◌<◌, ◌≤◌, Bool, true, false, not, ◌&&◌, ◌||◌, if◌then◌else◌, List, [], ◌∷◌, ◌⊎◌, Option, Some}

-- a value for each bit; B is the type of bits, by number or by name
abbrev pub Bitmap : Type 0 → Type 0
Bitmap B = B → Bool

-- an item: the bits that it drives; whether it is clocked; the bits that it reads within the cycle (of a clocked item its reset bit) and at the end of it;
-- the value of a driven bit in a settled cycle, from the stored bits and the assignment; and the stored bit after the cycle
pub record Cell (B : Type 0) : Type 0 where
  pub drives : B → Bool
  pub clocked : Bool
  pub reads : B → Bool
  pub uses : B → Bool
  pub within : Bitmap B → Bitmap B → Bitmap B
  pub after : Bitmap B → Bitmap B → Bitmap B

-- a is one of the list
abbrev pub In : {A : Type 0} → A → List A → Type 0
In a [] = ⊥
In a (x ∷ xs) = (a ≡ x) ⊎ In a xs

-- the bits that some cell drives; the others are inputs
abbrev pub driven : {B : Type 0} → List (Cell B) → B → Bool
driven [] b = false
driven (c ∷ cs) b = c.drives b || driven cs b

-- what a cell gives depends on the bits that it reads, and on the stored value of the bit itself
pub record IsLawful {B : Type 0} (c : Cell B) : Type 0 where
  pub within_same : (s t σ τ : Bitmap B) (b : B) → c.drives b ≡ true
      → ((a : B) → c.reads a ≡ true → σ a ≡ τ a) → (c.clocked ≡ true → s b ≡ t b) → c.within s σ b ≡ c.within t τ b
  pub after_same : (s t σ τ : Bitmap B) (b : B) → c.drives b ≡ true
      → ((a : B) → c.uses a ≡ true → σ a ≡ τ a) → s b ≡ t b → c.after s σ b ≡ c.after t τ b

-- the bits that c reads within the cycle are driven neither by c nor by the rest, and those that c drives are not driven by the rest
pub record IsFirst {B : Type 0} (c : Cell B) (rest : List (Cell B)) : Type 0 where
  pub reads_before : (b : B) → c.reads b ≡ true → (c.drives b || driven rest b) ≡ false
  pub alone : (b : B) → c.drives b ≡ true → driven rest b ≡ false

-- each cell stands after those that drive what it reads within the cycle, and no two drive one bit
abbrev pub IsOrdered : {B : Type 0} → List (Cell B) → Type 0
IsOrdered [] = Unit {0}
IsOrdered (c ∷ cs) = IsFirst c cs × IsOrdered cs

-- the assignment is as the cell gives it
pub record Holds {B : Type 0} (c : Cell B) (s σ : Bitmap B) : Type 0 where
  pub gives : (b : B) → c.drives b ≡ true → σ b ≡ c.within s σ b

-- the stored bits after the cycle are as the cell gives them
pub record Steps {B : Type 0} (c : Cell B) (s σ t : Bitmap B) : Type 0 where
  pub stores : (b : B) → c.clocked ≡ true → c.drives b ≡ true → t b ≡ c.after s σ b

-- a settled cycle for stored bits s and inputs i: inputs have their values, and each cell holds
pub record Settled {B : Type 0} (E : List (Cell B)) (s i σ : Bitmap B) : Type 0 where
  pub inputs : (b : B) → driven E b ≡ false → σ b ≡ i b
  pub holds : (c : Cell B) → In c E → Holds c s σ

-- the assignment that is made cell by cell
abbrev pub settle : {B : Type 0} → List (Cell B) → Bitmap B → Bitmap B → Bitmap B
settle [] s σ = σ
settle (c ∷ cs) s σ = settle cs s (λ b. if c.drives b then c.within s σ b else σ b)

-- the stored bits after a cycle
abbrev pub next : {B : Type 0} → List (Cell B) → Bitmap B → Bitmap B → Bitmap B
next [] s σ b = s b
next (c ∷ cs) s σ b = if c.clocked && c.drives b then c.after s σ b else next cs s σ b

-- cycles 0 to last: each is settled for its stored bits, the stored bits step from each to the following one, and held bits have their values
pub record IsTrace {B : Type 0} (E : List (Cell B)) (held : ℕ → B → Option Bool) (last : ℕ) (s σ : ℕ → Bitmap B) : Type 0 where
  pub settled : (k : ℕ) → k ≤ last → (c : Cell B) → In c E → Holds c (s k) (σ k)
  pub steps : (k : ℕ) → k < last → (c : Cell B) → In c E → Steps c (s k) (σ k) (s (suc k))
  pub holding : (k : ℕ) → k ≤ last → (b : B) (v : Bool) → held k b ≡ Some v → σ k b ≡ v

-- what a first state and inputs make of each cycle: the stored bits, step by step
abbrev pub states : {B : Type 0} → List (Cell B) → Bitmap B → (ℕ → Bitmap B) → ℕ → Bitmap B
states E start i zero = start
states E start i (suc k) = next E (states E start i k) (settle E (states E start i k) (i k))

-- and the assignment, settled for these stored bits and the inputs of the cycle
abbrev pub assigned : {B : Type 0} → List (Cell B) → Bitmap B → (ℕ → Bitmap B) → ℕ → Bitmap B
assigned E start i k = settle E (states E start i k) (i k)

-- members S and bits R: every cell of E that drives a bit of R is in S, and those of S read bits of R alone
pub record IsSlice {B : Type 0} (E S : List (Cell B)) (R : B → Bool) : Type 0 where
  pub inside : (c : Cell B) → In c S → In c E
  pub closed : (c : Cell B) → In c E → (b : B) → R b ≡ true → c.drives b ≡ true → In c S
  pub reads_in : (c : Cell B) → In c S → (b : B) → c.reads b ≡ true → R b ≡ true
  pub uses_in : (c : Cell B) → In c S → (b : B) → c.uses b ≡ true → R b ≡ true

-- what an item reads: within the cycle, and at its end without the bits that it drives itself
abbrev pub cell_reads : {B : Type 0} → Cell B → B → Bool
cell_reads c b = c.reads b || (c.uses b && not (c.drives b))

-- a part of the cells that holds each one that drives a wanted bit or a bit that a member reads
pub record IsClosedFrom {B : Type 0} (E : List (Cell B)) (bits : B → Bool) (S : List (Cell B)) : Type 0 where
  pub inside : (c : Cell B) → In c S → In c E
  pub starts : (c : Cell B) → In c E → (b : B) → bits b ≡ true → c.drives b ≡ true → In c S
  pub grows : (c d : Cell B) → In c E → In d S → (b : B) → cell_reads d b ≡ true → c.drives b ≡ true → In c S

-- the slice of the wanted bits: the least such part
pub record IsSliceOf {B : Type 0} (E : List (Cell B)) (bits : B → Bool) (S : List (Cell B)) : Type 0 where
  pub closed : IsClosedFrom E bits S
  pub least : (P : List (Cell B)) → IsClosedFrom E bits P → (c : Cell B) → In c S → In c P

-- the bits that the members read
abbrev pub read_by : {B : Type 0} → List (Cell B) → B → Bool
read_by [] b = false
read_by (c ∷ cs) b = (c.reads b || c.uses b) || read_by cs b
