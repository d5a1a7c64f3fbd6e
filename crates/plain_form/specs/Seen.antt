-- Modules as the code holds them.
use Rattle.std.specs.Prelude.{map}
use Rattle.plain_form.specs.Modules as spec
use Rattle.plain_form.specs.declared.modules.Port.{Port}
use Rattle.plain_form.specs.declared.modules.Right.{Right}
use Rattle.plain_form.specs.declared.modules.Right.TheVariants.{Wire, Fixed}
use Rattle.plain_form.specs.declared.modules.Assign.{Assign}
use Rattle.plain_form.specs.declared.modules.Module.{Module}

abbrev pub seen_port : Port → spec.Port
seen_port p = record { name = p.name.now; is_input = p.is_input }

abbrev pub seen_right : Right → spec.Right
seen_right (Wire name) = spec.wire name.now
seen_right (Fixed value) = spec.fixed value

abbrev pub seen_assign : Assign → spec.Assign
seen_assign a = record { left = a.left.now; right = seen_right a.right }

abbrev pub seen_module : Module → spec.Module
seen_module m = record { name = m.name.now; ports = map seen_port m.ports.items; assigns = map seen_assign m.assigns.items }
