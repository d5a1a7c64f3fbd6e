-- What becomes of a clause that is watched at a false literal.
use Rattle.std.specs.Prelude.{◌≡◌, ℕ, ◌+◌, ◌<◌, true, false, List, length, ◌⊎◌}
use Rattle.cnf_core.specs.declared.lit.Lit.{Lit}
use Rattle.cnf_core.specs.Learned.{Among, Each}
use Rattle.cnf_core.specs.Values.{Values, is_false, is_true}
use Rattle.sat_core.specs.declared.trail.Trail.{Trail}
use Rattle.sat_core.specs.declared.watching.Pair.{Pair}
use Rattle.sat_core.specs.declared.watching.Watches.{Watches}
use Rattle.sat_core.specs.declared.visiting.Look.{Look}
use Rattle.sat_core.specs.declared.visiting.Look.TheVariants.{Stays, Moves, Forces, Falsified}
use Rattle.sat_core.specs.declared.visiting.Turn.{Turn}
use Rattle.sat_core.specs.declared.visiting.Turn.TheVariants.{Next, Again, Conflict}
use Rattle.sat_core.specs.Sync.{reads, IsConflict}
use Rattle.sat_core.specs.Watch.{list_at, code_of, IsHeld, IsVisiting}

-- the pair has these two literals, in one order or the other
abbrev pub ArePair : Pair → Lit → Lit → Type 0
ArePair p f o = ((p.first ≡ f) × (p.second ≡ o)) ⊎ ((p.second ≡ f) × (p.first ≡ o))

-- every literal but o is false
abbrev pub OnlyOpen : Values → Lit → List Lit → Type 0
OnlyOpen a o c = Each (λ l. (l ≡ o) ⊎ (is_false a l ≡ true)) c

pub record IsFree (a : Values) (c : List Lit) (o n : Lit) : Type 0 where
  pub there : Among n c
  pub not_false : is_false a n ≡ false
  pub another : n ≡ o → ⊥

pub record IsMove (a : Values) (c : List Lit) (p : Pair) (f o n : Lit) : Type 0 where
  pub pair : ArePair p f o
  pub not_true : is_true a o ≡ false
  pub free : IsFree a c o n

pub record IsForce (a : Values) (c : List Lit) (p : Pair) (f o : Lit) : Type 0 where
  pub pair : ArePair p f o
  pub not_true : is_true a o ≡ false
  pub not_false : is_false a o ≡ false
  pub only : OnlyOpen a o c

abbrev pub LookSays : Values → List Lit → Pair → Lit → Look → Type 0
LookSays a c p f Stays = (p.first ≡ f → is_true a p.second ≡ true) × (p.second ≡ f → is_true a p.first ≡ true)
LookSays a c p f (Moves o n) = IsMove a c p f o n
LookSays a c p f (Forces o) = IsForce a c p f o
LookSays a c p f Falsified = Each (λ l. is_false a l ≡ true) c

abbrev pub TurnSays : List (List Lit) → ℕ → ℕ → ℕ → Trail → Watches → Watches → Lit → ℕ → Turn → Type 0
TurnSays cs leaves size count t old w f at Next = IsVisiting cs leaves size count t w f (at + 1) × (list_at w.lists.items (code_of f) ≡ list_at old.lists.items (code_of f))
TurnSays cs leaves size count t old w f at Again = IsVisiting cs leaves size count t w f at × (length (list_at w.lists.items (code_of f)) < length (list_at old.lists.items (code_of f)))
TurnSays cs leaves size count t old w f at (Conflict k) = IsHeld cs leaves size count t w × IsConflict cs (reads t.values.items) k
