use Rattle.std.proofs.Common.{◌≡◌, [], length, map}
use Rattle.plain_form.specs.Modules as spec
use Rattle.plain_form.specs.Seen.{seen_port}
use Rattle.plain_form.proofs.modules.read_ports.Given as goal

abbrev pub invariant-ports : goal.invariant-ports
invariant-ports l = spec.ports_after (map seen_port l.ports.items) (map (λ w. w.now) l.rest) ≡ spec.ports_after [] (map (λ w. w.now) l.words)

abbrev pub decreases-ports : goal.decreases-ports
decreases-ports l = length l.rest
