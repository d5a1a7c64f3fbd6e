use Rattle.std.proofs.Common.{drop}
use Rattle.cyc_net.specs.Nets.{LeavesBelow}
use Rattle.cyc_net.proofs.net.Net.leaves_below.Given as goal

abbrev pub invariant-loop-at : goal.invariant-loop-at
invariant-loop-at l = record {
  to : LeavesBelow l.count (drop l.at l.nodes) → LeavesBelow l.count l.nodes;
  from : LeavesBelow l.count l.nodes → LeavesBelow l.count (drop l.at l.nodes);
}
