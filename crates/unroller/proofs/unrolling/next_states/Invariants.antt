use Rattle.std.proofs.Common.{◌≡◌, ℕ, ◌<◌}
use Rattle.cyc_net.specs.Cycles.{leaf_of, bit_of}
use Rattle.unroller.specs.Tables.{read_node}
use Rattle.unroller.proofs.unrolling.next_states.Given as goal

abbrev pub invariant-loop-at : goal.invariant-loop-at
invariant-loop-at l = record {
  linked : (k : ℕ) → k < l.at → read_node l.sources.items (leaf_of l.states k) ≡ read_node l.copies (read_node l.nexts k);
  nodes : (n : ℕ) → ((i : ℕ) → read_node l.initial.sources.items i < n) → ((i : ℕ) → read_node l.copies i < n) → (i : ℕ) → read_node l.sources.items i < n;
}
