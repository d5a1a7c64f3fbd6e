-- Laws: the ports with what their assigns give, as the source says it, and the right verdict on a row.
use Rattle.std.specs.Prelude.{◌≡◌, ℕ, Bool, List, Option, Some, map}
use Rattle.design_core.specs.declared.place.BitRef.{BitRef}
use Rattle.design_core.specs.Cells.{Bitmap, Cell, In}
use Rattle.design_core.specs.Rows.{Row}
use Rattle.plain_form.specs.Modules.{Text, Port as ModulePort, Right, wire, fixed, Assign, Module}
use Rattle.plain_form.specs.Wires.{Wires, place, wires_of}
use Rattle.plain_form.specs.declared.wires.Driver.{Driver}
use Rattle.plain_form.specs.declared.wires.Driver.TheVariants.{Port, Fixed}
use Rattle.plain_form.specs.declared.wires.Slot.{Slot}
use Rattle.plain_rows.specs.Plain.{driver_at}
use Rattle.plain_rows.specs.Verdicts.{IsRight, Verdict}

-- a right side, by the places of the ports
abbrev pub Gives : List Text → Right → Driver → Type 0
Gives names (wire n) (Port k) = place names n ≡ Some k
Gives names (wire n) (Fixed v) = ⊥
Gives names (fixed v) (Port k) = ⊥
Gives names (fixed v) (Fixed w) = v ≡ w

-- an assign gives this to the port at a place
pub record IsAssignAt (names : List Text) (a : Assign) (i : ℕ) (d : Driver) : Type 0 where
  pub left : place names a.left ≡ Some i
  pub right : Gives names a.right d

-- the ports are those of the module, in order; each assign of the module drives its port, and what drives a port is an assign of the module
pub record ReadsAsAssigns (m : Module) (w : Wires) : Type 0 where
  pub names : w.names ≡ map (λ (p : ModulePort). p.name) m.ports
  pub inputs : map (λ (s : Slot). s.is_input) w.slots ≡ map (λ (p : ModulePort). p.is_input) m.ports
  pub each_assign : (a : Assign) → In a m.assigns → (i : ℕ) × (d : Driver) × IsAssignAt w.names a i d × (driver_at w.slots i ≡ Some d)
  pub each_driver : (i : ℕ) (d : Driver) → driver_at w.slots i ≡ Some d → (a : Assign) × In a m.assigns × IsAssignAt w.names a i d

abbrev pub DriversAreAssigns : Type 0
DriversAreAssigns = (top : Text) (m : Module) (w : Wires) → wires_of top m ≡ Some w → ReadsAsAssigns m w

-- a row has one right verdict: two verdicts that are right for it are the same, with their launch and their inputs
abbrev pub VerdictsAreOne : Type 0
VerdictsAreOne = (E : List (Cell BitRef)) (bits : List BitRef) (window run : ℕ → BitRef → Option Bool) (power_up : Bitmap BitRef) (row : Row BitRef) (first depth : ℕ) (v w : Verdict)
    → IsRight E bits window run power_up row first depth v → IsRight E bits window run power_up row first depth w → v ≡ w
