use Rattle.std.proofs.Common.{◌≡◌, length, drop}
use Rattle.clock_chains.specs.Links.{with_steps, no_reads}
use Rattle.clock_chains.proofs.chains.reads_of.Given as goal

abbrev pub invariant-loop-step : goal.invariant-loop-step
invariant-loop-step l = record {
  reads : with_steps l.reads.items (drop l.step-index l.steps) ≡ with_steps (no_reads l.count) l.steps;
  many : length l.reads.items ≡ l.count;
}
