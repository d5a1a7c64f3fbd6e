use Rattle.std.proofs.Common.{◌≡◌, ℕ, ◌<◌, Bool}
use Rattle.cyc_net.specs.Nets.{value}
use Rattle.cyc_net.specs.Cycles.{leaf_of, bit_of}
use Rattle.unroller.specs.Setups.{is_one, value_of}
use Rattle.unroller.specs.Steps.{AreNodes}
use Rattle.unroller.specs.Tables.{read_node}
use Rattle.unroller.proofs.unrolling.fixed_states.Given as goal

abbrev pub invariant-loop-at : goal.invariant-loop-at
invariant-loop-at l = record {
  nodes : AreNodes l.net l.sources.items;
  values : (w : ℕ → Bool) (k : ℕ) → k < l.at → value l.net w (read_node l.sources.items (leaf_of l.states k)) ≡ is_one (value_of l.values (bit_of l.states k));
}
