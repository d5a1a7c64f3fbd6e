-- The ports of a plain module by their places, each output with what its assign gives it.
use Rattle.std.specs.Prelude.{List, [], ◌∷◌, ◌++◌, ℕ, Bool, false, not, ◌&&◌, if◌then◌else◌, Option, Some, None, is_none, position, slice_get, slice_set}
use Rattle.std.specs.List.{list_any}
use Rattle.std.specs.Str.{bytes_eq}
use Rattle.plain_form.specs.Modules.{Text, Port, Right, wire, fixed, Assign, Module, module_of}
use Rattle.plain_form.specs.declared.wires.Driver.{Driver}
use Rattle.plain_form.specs.declared.wires.Driver.TheVariants as driver
use Rattle.plain_form.specs.declared.wires.Slot.{Slot}

pub record Wires : Type 0 where
  pub names : List Text
  pub slots : List Slot

-- the first place of a name
abbrev pub place : List Text → Text → Option ℕ
place names name = position (bytes_eq name) names

abbrev pub is_open_output : Option Slot → Bool
is_open_output None = false
is_open_output (Some slot) = not slot.is_input && is_none slot.driver

abbrev pub is_an_input : Option Slot → Bool
is_an_input None = false
is_an_input (Some slot) = slot.is_input

-- the place of an output that no assign has written
abbrev pub output_at : List Slot → Option ℕ → Option ℕ
output_at slots None = None
output_at slots (Some i) = if is_open_output (slice_get slots i) then Some i else None

-- the place of an input
abbrev pub input_at : List Slot → Option ℕ → Option Driver
input_at slots None = None
input_at slots (Some i) = if is_an_input (slice_get slots i) then Some (driver.Port i) else None

-- what a right side gives: an input or a constant
abbrev pub driver_of : Wires → Right → Option Driver
driver_of w (wire name) = input_at w.slots (place w.names name)
driver_of w (fixed value) = Some (driver.Fixed value)

abbrev pub driven_by : Driver → Slot
driven_by d = record { is_input = false; driver = Some d }

-- an assign whose sides are found
abbrev pub put : Wires → Option ℕ → Option Driver → Option Wires
put w None d = None
put w (Some i) None = None
put w (Some i) (Some d) = Some (record { names = w.names; slots = slice_set w.slots i (driven_by d) })

-- one assign more
abbrev pub driven : Wires → Assign → Option Wires
driven w a = put w (output_at w.slots (place w.names a.left)) (driver_of w a.right)

abbrev pub then_all : Option Wires → (Wires → Option Wires) → Option Wires
then_all None next = None
then_all (Some w) next = next w

-- all assigns in order
abbrev pub all_driven : Wires → List Assign → Option Wires
all_driven w [] = Some w
all_driven w (a ∷ as') = then_all (driven w a) (λ more. all_driven more as')

abbrev pub slot_of : Port → Slot
slot_of p = record { is_input = p.is_input; driver = None }

-- one port more
abbrev pub with_port : Wires → Port → Wires
with_port w p = record { names = w.names ++ p.name ∷ []; slots = w.slots ++ slot_of p ∷ [] }

-- all ports in order, where their names differ
abbrev pub all_ports : Wires → List Port → Option Wires
all_ports w [] = Some w
all_ports w (p ∷ ps) = if list_any (bytes_eq p.name) w.names then None else all_ports (with_port w p) ps

-- the wires of a module of this name
abbrev pub wires_of : Text → Module → Option Wires
wires_of top m = if bytes_eq m.name top then then_all (all_ports (record { names = []; slots = [] }) m.ports) (λ w. all_driven w m.assigns) else None

abbrev pub wires_in : Text → Option Module → Option Wires
wires_in top None = None
wires_in top (Some m) = wires_of top m

-- the wires of a plain source, given by the texts of its tokens, whose module has this name
abbrev pub source_of : Text → List Text → Option Wires
source_of top words = wires_in top (module_of words)
