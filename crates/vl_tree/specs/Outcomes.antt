-- What a call of the front end answers: a value, or the code of a fault or of a limit that is passed.
use Rattle.std.specs.Prelude.{⊤, ◌≡◌, ℕ, List, Option, Some, None, Result, Ok, Err, if◌then◌else◌}
use Rattle.vl_tree.specs.declared.faults.Code.{Code}
use Rattle.vl_tree.specs.declared.faults.Place.TheVariants as place
use Rattle.vl_tree.specs.declared.faults.Stop.{Stop}
use Rattle.vl_tree.specs.declared.faults.Stop.TheVariants as stop
use Rattle.vl_tree.specs.declared.outcome.Halt.{Halt}
use Rattle.vl_tree.specs.declared.outcome.Halt.TheVariants as halt
use Rattle.vl_tree.specs.Order.{is_limit}

abbrev pub Outcome : Type 0 → Type 0
Outcome A = Result A Code

-- a step behind another, where that one gives a value
abbrev pub and_then : {A B : Type 0} → Outcome A → (A → Outcome B) → Outcome B
and_then (Ok a) f = f a
and_then (Err c) f = Err c

-- a value, unless there is a fault
abbrev pub unless : {A : Type 0} → Option Code → A → Outcome A
unless None a = Ok a
unless (Some c) a = Err c

-- a function gives this, unless memory is wanting
abbrev pub Gives : {A : Type 0} → Result A Halt → Outcome A → Type 0
Gives (Ok a) o = o ≡ Ok a
Gives (Err (halt.Refused c)) o = o ≡ Err c
Gives (Err halt.NoMemory) o = ⊤

-- the same of a value as it is seen in memory
abbrev pub GivesSeen : {X A : Type 0} → (X → A) → Result X Halt → Outcome A → Type 0
GivesSeen view (Ok x) o = o ≡ Ok (view x)
GivesSeen view (Err (halt.Refused c)) o = o ≡ Err c
GivesSeen view (Err halt.NoMemory) o = ⊤

-- A call that no limit stops gives this, unless memory is wanting; a fault stands at this path.
abbrev pub GivesAt : {A : Type 0} → List ℕ → Result A Stop → Outcome A → Type 0
GivesAt path (Ok a) o = o ≡ Ok a
GivesAt path (Err (stop.Fault f)) o = (o ≡ Err f.code) × (f.place ≡ place.Path path)
GivesAt path (Err (stop.Limit c)) o = ⊥
GivesAt path (Err stop.NoMemory) o = ⊤

-- what is answered for a halt in the scope of a path
abbrev pub stop_at : List ℕ → Halt → Stop
stop_at path halt.NoMemory = stop.NoMemory
stop_at path (halt.Refused c) = if is_limit c then stop.Limit c else stop.Fault (record { code = c; place = place.Path path })
