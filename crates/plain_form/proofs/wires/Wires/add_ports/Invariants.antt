use Rattle.std.proofs.Common.{◌≡◌, drop, map}
use Rattle.plain_form.specs.Seen.{seen_port}
use Rattle.plain_form.specs.SeenWires.{seen_wires}
use Rattle.plain_form.specs.Wires as spec
use Rattle.plain_form.proofs.wires.Wires.add_ports.Given as goal

abbrev pub invariant-loop-port : goal.invariant-loop-port
invariant-loop-port l = spec.all_ports (seen_wires l.self) (map seen_port (drop l.port-index l.ports)) ≡ spec.all_ports (seen_wires l.initial.self) (map seen_port l.ports)
