-- The turns of a loop one by one (IEEE 1364-2005, 12.4.1), and the laws that its values are exactly these.
use Rattle.std.specs.Prelude.{◌≡◌, ◌≤◌, ◌↔◌, ℕ, suc, Bool, true, false, List, [], ◌∷◌, length, Ok, Err}
use Rattle.vl_tree.specs.declared.faults.Code.TheVariants.{LoopTooLong}
use Rattle.vl_tree.specs.Outcomes.{Outcome}
use Rattle.vl_size.specs.declared.constant.Const.{Const}
use Rattle.vl_generate.specs.Turns.{values}

-- The variable has the value v, and these in the turns that follow: the test holds in each of them and not behind the last one.
pub data Turning (go : Const → Outcome Bool) (step : Const → Outcome Const) : Const → List Const → Type 0 where
  ends : (v : Const) → go v ≡ Ok false → Turning go step v []
  turn : (v w : Const) (vs : List Const) → go v ≡ Ok true → step v ≡ Ok w → Turning go step w vs → Turning go step v (v ∷ vs)

-- the values of a loop are exactly those of its turns, where they are not too many
abbrev pub TurnsFollow : Type 0
TurnsFollow = (go : Const → Outcome Bool) (step : Const → Outcome Const) (n : ℕ) (v : Const) (vs : List Const)
    → (values n go step v ≡ Ok vs) ↔ (Turning go step v vs × (length vs ≤ n))

-- the test holds in more than n turns
pub data GoesOn (go : Const → Outcome Bool) (step : Const → Outcome Const) : ℕ → Const → Type 0 where
  once : (v : Const) → go v ≡ Ok true → GoesOn go step 0 v
  again : (n : ℕ) (v w : Const) → go v ≡ Ok true → step v ≡ Ok w → GoesOn go step n w → GoesOn go step (suc n) v

-- more turns than the limit are the fault of a loop that is too long
abbrev pub LongLoopsAreRefused : Type 0
LongLoopsAreRefused = (go : Const → Outcome Bool) (step : Const → Outcome Const) (n : ℕ) (v : Const) → GoesOn go step n v → values n go step v ≡ Err LoopTooLong
