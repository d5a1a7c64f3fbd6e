-- A plain module as a design: a signal of one bit for each port, and an assign for each output that has one.
use Rattle.std.specs.Prelude.{◌≡◌, ℕ, suc, ◌<◌, ◌==◌, nat_lt, if◌then◌else◌, slice_get, Bool, true, false, List, [], ◌∷◌, Option, Some, None, pos, map, length}
use Rattle.std.specs.List.{range_with_len}
use Rattle.design_core.specs.declared.place.BitRef.{BitRef}
use Rattle.design_core.specs.Core.{bit, signal, Term, constant, span, slice}
use Rattle.design_core.specs.Cells.{Cell}
use Rattle.design_core.specs.Items.{CoreItem, assign, cell_of}
use Rattle.design_core.specs.Rows as design
use Rattle.design_core.specs.Setups.{held_in_window, held_in_run, powered}
use Rattle.plain_form.specs.Table as table
use Rattle.plain_form.specs.declared.wires.Driver.{Driver}
use Rattle.plain_form.specs.declared.wires.Driver.TheVariants.{Port, Fixed}
use Rattle.plain_form.specs.declared.wires.Slot.{Slot}
use Rattle.plain_rows.specs.Verdicts.{Verdict, proved, refuted, IsRight}

-- the right side of an assign: the one bit of a port, or a constant
abbrev pub right_of : Driver → Term
right_of (Port k) = span k 1 (pos 0) 1
right_of (Fixed v) = constant (v ∷ [])

-- the assign of the one bit of port i
abbrev pub item : ℕ → Driver → CoreItem
item i d = assign (slice (signal i) 1 (pos 0) 1) (right_of d)

abbrev pub and_item : ℕ → Option Driver → List CoreItem → List CoreItem
and_item i None items = items
and_item i (Some d) items = item i d ∷ items

-- the items of the ports from port i on
abbrev pub items_from : ℕ → List Slot → List CoreItem
items_from i [] = []
items_from i (s ∷ ss) = and_item i s.driver (items_from (suc i) ss)

abbrev pub cells : List Slot → List (Cell BitRef)
cells slots = map cell_of (items_from 0 slots)

-- all bits in order
abbrev pub bits : List Slot → List BitRef
bits slots = map (λ i. bit i 0) (range_with_len 0 (length slots))

-- a row of the table: one bit, latency 0, no conditions
abbrev pub row_of : table.Row → design.Row BitRef
row_of r = record { pairs = (bit r.source 0, bit r.dest 0) ∷ []; latency = 0; conditions = [] }

-- the verdict is right for the row: nothing is pinned, there is no reset, and launches 0 to 8 are sought
pub record IsRightHere (slots : List Slot) (r : table.Row) (v : Verdict) : Type 0 where
  pub right : IsRight (cells slots) (bits slots) (held_in_window [] None) (held_in_run [] None 0) (powered []) (row_of r) 0 8 v

-- what an assign gives to port i, if there is one
abbrev pub driver_in : Option Slot → Option Driver
driver_in None = None
driver_in (Some s) = s.driver

abbrev pub driver_at : List Slot → ℕ → Option Driver
driver_at slots i = driver_in (slice_get slots i)

abbrev pub or_itself : ℕ → Option Driver → Driver
or_itself i None = Port i
or_itself i (Some d) = d

-- what stands at the other end of port i
abbrev pub end_of : List Slot → ℕ → Driver
end_of slots i = or_itself i (driver_at slots i)

-- assigns read ports that no assign writes
pub record IsSound (slots : List Slot) : Type 0 where
  pub reads_free : (j k : ℕ) → driver_at slots j ≡ Some (Port k) → (driver_at slots k ≡ None) × (k < length slots)

-- the port that is 1 in the first breaking run, if one is: with two different ports the later one
abbrev pub one_of : Driver → Driver → Option ℕ
one_of (Fixed v) (Fixed w) = None
one_of (Fixed true) (Port k) = None
one_of (Fixed false) (Port k) = Some k
one_of (Port k) (Fixed true) = None
one_of (Port k) (Fixed false) = Some k
one_of (Port a) (Port b) = Some (if nat_lt a b then b else a)

abbrev pub is_same : Driver → Driver → Bool
is_same (Fixed true) (Fixed v) = v
is_same (Fixed false) (Fixed true) = false
is_same (Fixed false) (Fixed false) = true
is_same (Fixed v) (Port k) = false
is_same (Port k) (Fixed v) = false
is_same (Port a) (Port b) = a == b

abbrev pub ones : Option ℕ → List (ℕ × BitRef)
ones None = []
ones (Some m) = (0, bit m 0) ∷ []

-- the verdict by the ends of the wires
abbrev pub verdict_of : List Slot → table.Row → Verdict
verdict_of slots r = if is_same (end_of slots r.source) (end_of slots r.dest) then proved else refuted 0 (ones (one_of (end_of slots r.source) (end_of slots r.dest)))
