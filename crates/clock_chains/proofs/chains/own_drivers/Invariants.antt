use Rattle.std.proofs.Common.{◌≡◌}
use Rattle.clock_chains.specs.Links as links
use Rattle.clock_chains.proofs.chains.own_drivers.Given as goal

abbrev pub invariant-loop-at : goal.invariant-loop-at
invariant-loop-at l = l.all.items ≡ links.own_drivers l.at
