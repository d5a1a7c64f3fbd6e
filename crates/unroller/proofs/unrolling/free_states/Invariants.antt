use Rattle.std.proofs.Common.{◌≡◌, ℕ, ◌<◌, Bool, ltb}
use Rattle.cyc_net.specs.Nets.{value, has_leaf, Extends}
use Rattle.cyc_net.specs.Cycles.{leaf_of}
use Rattle.unroller.specs.Steps.{AreNodes}
use Rattle.unroller.specs.Tables.{read_node}
use Rattle.unroller.proofs.unrolling.free_states.Given as goal

abbrev pub invariant-loop-state : goal.invariant-loop-state
invariant-loop-state l = record {
  kept : Extends l.initial.net l.net;
  nodes : AreNodes l.net l.sources.items;
  count : l.leaves ≡ l.state-index;
  has : (i : ℕ) → has_leaf l.net i ≡ ltb i l.leaves;
  values : (w : ℕ → Bool) (k : ℕ) → k < l.state-index → value l.net w (read_node l.sources.items (leaf_of l.states k)) ≡ w k;
}
