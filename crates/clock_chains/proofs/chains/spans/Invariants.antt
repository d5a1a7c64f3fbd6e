use Rattle.std.proofs.Common.{◌≡◌, ◌++◌, map, drop}
use Rattle.clock_chains.specs.Links.{span}
use Rattle.clock_chains.proofs.chains.spans.Given as goal

abbrev pub invariant-loop-signal : goal.invariant-loop-signal
invariant-loop-signal l = l.all ++ map span (drop l.signal-index l.signals) ≡ map span l.signals
