-- The state that an environment of values stands for, under each valuation.
use Rattle.std.specs.Prelude.{◌≡◌, ℕ, ◌≤◌, Bool, true, false, List, [], map, slice_index_or, All, if◌then◌else◌}
use Rattle.bits_core.specs.Places.{bit_at}
use Rattle.design_core.specs.declared.tree.DExpr.{DExpr}
use Rattle.design_core.specs.Core.{Assignment, St, value, Term}
use Rattle.design_core.specs.Terms.{term}
use Rattle.value_domain.specs.Meaning.{Meaning}

-- the bits of a list of values, one for each signal; 0 past the end of one
abbrev pub assignment : List (List Bool) → Assignment
assignment env b = bit_at (slice_index_or env b.signal []) b.bit

-- the length of each signal
abbrev pub size_in : List ℕ → ℕ → ℕ
size_in lengths s = slice_index_or lengths s 0

-- in a function the signals are those outside, and the locals are at hand; outside functions the signals are at hand
abbrev pub signals_in : {X : Type 0} → Bool → List X → List X → List X
signals_in true outer now = outer
signals_in false outer now = now

abbrev pub locals_in : {X : Type 0} → Bool → List X → List X → List X
locals_in true outer now = now
locals_in false outer now = outer

abbrev pub stored_in : {X : Type 0} → Bool → List X → List X → List X
stored_in true outer next = outer
stored_in false outer next = next

module _ {S V : Type 0} (m : Meaning S V) where
  -- the state of a body
  abbrev pub state_in : S → (ℕ → Bool) → Bool → List V → List V → List V → St
  state_in d v inside outer now next = record {
    now = assignment (map (m.reads d v) (signals_in inside outer now));
    later = assignment (map (m.reads d v) (stored_in inside outer next));
    locals = map (m.reads d v) (locals_in inside outer now);
  }

  -- what a term is worth in a state
  abbrev pub worth : Term → St → List Bool
  worth e t = value e t.now t.locals

  -- the values of an environment are of the domain, of at most 65,536 bits, and as many and as long in what is to be stored as now
  pub record IsFrame (d : S) (inside : Bool) (outer now next : List V) : Type 0 where
    pub outer_are : All (m.is_value d) outer
    pub now_are : All (m.is_value d) now
    pub next_are : All (m.is_value d) next
    pub most : All (λ n. n ≤ 65536) (map m.width now)
    pub alike : inside ≡ false → map m.width next ≡ map m.width now

  -- an environment with the lengths of another
  pub record IsLike (d : S) (inside : Bool) (outer now next from : List V) : Type 0 where
    pub frame : IsFrame d inside outer now next
    pub now_wide : map m.width now ≡ map m.width from

  -- the state of a body outside functions
  abbrev pub env_state : S → (ℕ → Bool) → List V → List V → St
  env_state d v now next = record { now = assignment (map (m.reads d v) now); later = assignment (map (m.reads d v) next); locals = [] }

  -- the values of the signals are of the domain, of at most 65,536 bits, and as many and as long in what is to be stored
  pub record IsEnv (d : S) (now next : List V) : Type 0 where
    pub now_are : All (m.is_value d) now
    pub next_are : All (m.is_value d) next
    pub most : All (λ n. n ≤ 65536) (map m.width now)
    pub alike : map m.width next ≡ map m.width now

  -- the lengths of the signals and of the locals
  abbrev pub signal_widths : Bool → List V → List V → List ℕ
  signal_widths inside outer now = map m.width (signals_in inside outer now)

  abbrev pub local_widths : Bool → List V → List V → List ℕ
  local_widths inside outer now = map m.width (locals_in inside outer now)

  abbrev pub size_for : Bool → List V → List V → ℕ → ℕ
  size_for inside outer now = size_in (signal_widths inside outer now)

  -- what an expression is worth, where the signals and the locals have these values
  abbrev pub expr_value : S → List V → List V → DExpr → (ℕ → Bool) → List Bool
  expr_value d signals locals e v = value (term (size_in (map m.width signals)) e) (assignment (map (m.reads d v) signals)) (map (m.reads d v) locals)

  -- values of these lengths, which read so
  pub record Standing (d : S) (xs : List V) (lengths : List ℕ) (lists : (ℕ → Bool) → List (List Bool)) : Type 0 where
    pub are : All (m.is_value d) xs
    pub wide : map m.width xs ≡ lengths
    pub stand : (v : ℕ → Bool) → map (m.reads d v) xs ≡ lists v

-- the state after a statement where the guard allows, else the state
abbrev pub ran : Bool → St → St → St
ran allowed after t = if allowed then after else t
