-- What the outside holds in each cycle, and the power-up state.
use Rattle.std.specs.Prelude.{ℕ, Bool, true, false, not, if◌then◌else◌, nat_lt, List, [], ◌∷◌, Option, Some, None}
use Rattle.design_core.specs.declared.place.BitRef.{BitRef}
use Rattle.design_core.specs.declared.items.PowerUp.{PowerUp}
use Rattle.design_core.specs.Core.{Assignment, same_bit}

-- the value of a bit by the first entry that names it
abbrev pub given : List (BitRef × Bool) → BitRef → Option Bool
given [] b = None
given (p ∷ ps) b = if same_bit b p.0 then Some p.1 else given ps b

-- the first value, else the second
abbrev pub or_else : Option Bool → Option Bool → Option Bool
or_else None second = second
or_else (Some v) second = Some v

-- the reset input with its asserted value, or with the other
abbrev pub reset_at : Bool → Option (BitRef × Bool) → BitRef → Option Bool
reset_at released None b = None
reset_at released (Some r) b = if same_bit b r.0 then Some (if released then not r.1 else r.1) else None

-- in each cycle of a window pins hold their values, and the reset input is released
abbrev pub held_in_window : List (BitRef × Bool) → Option (BitRef × Bool) → ℕ → BitRef → Option Bool
held_in_window pins reset k b = or_else (given pins b) (reset_at true reset b)

-- in a run pins hold in all cycles; the reset input is asserted in the first n cycles and released after
abbrev pub held_in_run : List (BitRef × Bool) → Option (BitRef × Bool) → ℕ → ℕ → BitRef → Option Bool
held_in_run pins reset n k b = or_else (given pins b) (reset_at (not (nat_lt k n)) reset b)

-- the stored bits at power-up, 0 where nothing is said
abbrev pub powered : List PowerUp → Assignment
powered [] b = false
powered (p ∷ ps) b = if same_bit b p.bit then p.value else powered ps b
