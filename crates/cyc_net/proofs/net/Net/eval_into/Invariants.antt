use Rattle.std.proofs.Common.{◌≡◌, [], take, length}
use Rattle.cyc_net.specs.Nets.{run, bit_at}
use Rattle.cyc_net.proofs.net.Net.eval_into.Given as goal

abbrev pub invariant-loop-at : goal.invariant-loop-at
invariant-loop-at l = record {
  done : take l.at l.out ≡ run (bit_at l.leaves) [] (take l.at l.nodes);
  size : length l.out ≡ length l.nodes;
}
