use Rattle.std.proofs.Common.{◌≡◌, take, length}
use Rattle.cyc_net.specs.Nets.{bit_at}
use Rattle.tseitin_cnf.specs.Encoding.{walk, begin}
use Rattle.tseitin_cnf.specs.Parts.{nodes_in}
use Rattle.tseitin_cnf.specs.Tracks.{Tracks, Good}
use Rattle.tseitin_cnf.proofs.encoding.add_nodes.Given as goal

abbrev pub invariant-loop-at : goal.invariant-loop-at
invariant-loop-at l = record {
  tracks : Tracks l.leaves (walk (bit_at l.marks) 0 (begin l.leaves) (take l.at (nodes_in l.whole l.part l.net))) l.variables l.last l.clauses;
  good : Good (nodes_in l.whole l.part l.net) (bit_at l.marks) l.leaves l.at (walk (bit_at l.marks) 0 (begin l.leaves) (take l.at (nodes_in l.whole l.part l.net)));
  same : length l.variables ≡ length l.net;
}
