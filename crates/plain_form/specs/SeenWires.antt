-- Wires as the code holds them.
use Rattle.plain_form.specs.Names.{listed}
use Rattle.plain_form.specs.Wires as spec
use Rattle.plain_form.specs.declared.wires.Wires.{Wires}

abbrev pub seen_wires : Wires → spec.Wires
seen_wires w = record { names = listed w.names; slots = w.slots.items }
