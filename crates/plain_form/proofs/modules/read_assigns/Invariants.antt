use Rattle.std.proofs.Common.{◌≡◌, [], length, map}
use Rattle.plain_form.specs.Modules as spec
use Rattle.plain_form.specs.Seen.{seen_assign}
use Rattle.plain_form.proofs.modules.read_assigns.Given as goal

abbrev pub invariant-assigns : goal.invariant-assigns
invariant-assigns l = spec.assigns_after (map seen_assign l.assigns.items) (map (λ w. w.now) l.rest) ≡ spec.assigns_after [] (map (λ w. w.now) l.words)

abbrev pub decreases-assigns : goal.decreases-assigns
decreases-assigns l = length l.rest
