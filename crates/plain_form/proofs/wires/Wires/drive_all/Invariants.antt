use Rattle.std.proofs.Common.{◌≡◌, drop, map}
use Rattle.plain_form.specs.Seen.{seen_assign}
use Rattle.plain_form.specs.SeenWires.{seen_wires}
use Rattle.plain_form.specs.Wires as spec
use Rattle.plain_form.proofs.wires.Wires.drive_all.Given as goal

abbrev pub invariant-loop-assign : goal.invariant-loop-assign
invariant-loop-assign l = spec.all_driven (seen_wires l.self) (map seen_assign (drop l.assign-index l.assigns)) ≡ spec.all_driven (seen_wires l.initial.self) (map seen_assign l.assigns)
