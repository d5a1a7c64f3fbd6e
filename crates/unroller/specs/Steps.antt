-- What the parts of a frame do to the net and to the sources of the cycle net's leaves.
use Rattle.std.specs.Prelude.{◌≡◌, ℕ, ◌+◌, ◌<◌, ◌||◌, Bool, eqb, ltb, List, length, take, [], Option, Some, None, slice_index_or}
use Rattle.cyc_net.specs.declared.node.Node.{Node}
use Rattle.cyc_net.specs.declared.cycle.BitLeaf.{BitLeaf}
use Rattle.cyc_net.specs.declared.cycle.BitNode.{BitNode}
use Rattle.cyc_net.specs.declared.cycle.CycleNet.{CycleNet}
use Rattle.cyc_net.specs.Nets.{value, has_leaf, Extends}
use Rattle.unroller.specs.declared.setup.Fixed.{Fixed}
use Rattle.unroller.specs.declared.setup.StartState.{StartState}
use Rattle.cyc_net.specs.Cycles.{leaf_of, bit_of, node_at, next_of}
use Rattle.unroller.specs.Setups.{fixed_at, StartsAt, Trace, IsTrace, state_places, input_places, places, Agree, AreFrames}
use Rattle.unroller.specs.Tables.{read_node}

-- no leaf stands twice
abbrev pub Apart : List BitLeaf → Type 0
Apart ps = (j k : ℕ) → j < k → k < length ps → leaf_of ps j ≡ leaf_of ps k → ⊥

abbrev pub Across : List BitLeaf → List BitLeaf → Type 0
Across ps qs = (j k : ℕ) → j < length ps → k < length qs → leaf_of ps j ≡ leaf_of qs k → ⊥

-- each number has a node of the net
abbrev pub AreNodes : List Node → List ℕ → Type 0
AreNodes net table = (l : ℕ) → read_node table l < length net

-- after the stored bits of the first cycle
pub record Started (start : StartState) (states : List BitLeaf) (old new : List Node) (sources : List ℕ) (leaves : ℕ) : Type 0 where
  pub kept : Extends old new
  pub nodes : AreNodes new sources
  pub count : leaves ≡ length (state_places start states)
  pub has : (i : ℕ) → has_leaf new i ≡ ltb i leaves
  pub agree : (w : ℕ → Bool) (σ : Trace) → ((k : ℕ) → k < length states → σ 0 (leaf_of states k) ≡ value new w (read_node sources (leaf_of states k))) → Agree 0 (state_places start states) w σ
  pub starts : (w : ℕ → Bool) (k : ℕ) → k < length states → StartsAt start (bit_of states k) (value new w (read_node sources (leaf_of states k)))

-- after one input bit: its node has the fixed value, or is the next leaf
abbrev pub InputSays : Option Bool → ℕ → List Node → List Node → ℕ → ℕ → Type 0
InputSays (Some v) n old new at next = ((w : ℕ → Bool) → value new w at ≡ v) × (next ≡ n) × ((i : ℕ) → has_leaf new i ≡ has_leaf old i)
InputSays None n old new at next = ((w : ℕ → Bool) → value new w at ≡ w n) × (next ≡ n + 1) × ((i : ℕ) → has_leaf new i ≡ (has_leaf old i || eqb i n))

-- after the input bits of cycle t
pub record Given (setup : Fixed) (t : ℕ) (inputs : List BitLeaf) (old : List Node) (before : List ℕ) (n : ℕ) (new : List Node) (after : List ℕ) (leaves : ℕ) : Type 0 where
  pub kept : Extends old new
  pub nodes : AreNodes new after
  pub count : leaves ≡ n + length (input_places setup t inputs)
  pub has : (i : ℕ) → has_leaf new i ≡ ltb i leaves
  pub others : (l : ℕ) → ((k : ℕ) → k < length inputs → leaf_of inputs k ≡ l → ⊥) → read_node after l ≡ read_node before l
  pub fixed : (w : ℕ → Bool) (k : ℕ) (b : Bool) → k < length inputs → fixed_at setup t (bit_of inputs k) ≡ Some b → value new w (read_node after (leaf_of inputs k)) ≡ b
  pub free : (w : ℕ → Bool) (k : ℕ) → k < length inputs → fixed_at setup t (bit_of inputs k) ≡ None → value new w (read_node after (leaf_of inputs k)) ≡ w (n + length (input_places setup t (take k inputs)))

-- after the nodes of a cycle
pub record Copied (cycle : List Node) (old : List Node) (sources : List ℕ) (new : List Node) (copies : List ℕ) : Type 0 where
  pub kept : Extends old new
  pub nodes : AreNodes new copies
  pub has : (i : ℕ) → has_leaf new i ≡ has_leaf old i
  pub values : (w : ℕ → Bool) (k : ℕ) → k < length cycle → value new w (read_node copies k) ≡ value cycle (λ l. value old w (read_node sources l)) k

-- after some input bits of cycle t
pub record Placing (setup : Fixed) (t : ℕ) (inputs : List BitLeaf) (i : ℕ) (old : List Node) (before : List ℕ) (n : ℕ) (new : List Node) (after : List ℕ) (leaves : ℕ) : Type 0 where
  pub kept : Extends old new
  pub nodes : AreNodes new after
  pub count : leaves ≡ n + length (input_places setup t (take i inputs))
  pub has : (x : ℕ) → has_leaf new x ≡ ltb x leaves
  pub others : (l : ℕ) → ((k : ℕ) → k < i → leaf_of inputs k ≡ l → ⊥) → read_node after l ≡ read_node before l
  pub fixed : (w : ℕ → Bool) (k : ℕ) (b : Bool) → k < i → fixed_at setup t (bit_of inputs k) ≡ Some b → value new w (read_node after (leaf_of inputs k)) ≡ b
  pub free : (w : ℕ → Bool) (k : ℕ) → k < i → fixed_at setup t (bit_of inputs k) ≡ None → value new w (read_node after (leaf_of inputs k)) ≡ w (n + length (input_places setup t (take k inputs)))

-- after some nodes of a cycle
pub record Copying (cycle : List Node) (i : ℕ) (old : List Node) (sources : List ℕ) (new : List Node) (copies : List ℕ) : Type 0 where
  pub kept : Extends old new
  pub nodes : AreNodes new copies
  pub has : (x : ℕ) → has_leaf new x ≡ has_leaf old x
  pub long : length copies ≡ i
  pub values : (w : ℕ → Bool) (k : ℕ) → k < i → value new w (read_node copies k) ≡ value cycle (λ l. value old w (read_node sources l)) k

-- before cycle t: the trace so far, whose stored bits are read from the sources
pub record Reached (c : CycleNet) (setup : Fixed) (start : StartState) (t : ℕ) (net : List Node) (sources : List ℕ) (frames : List (List BitNode)) (w : ℕ → Bool) : Type 0 where
  pub trace : Trace
  pub is_trace : IsTrace c setup start t trace
  pub now : (k : ℕ) → k < length c.states → trace t (leaf_of c.states k) ≡ value net w (read_node sources (leaf_of c.states k))
  pub linked : (u k : ℕ) → u + 1 ≡ t → k < length c.states → trace t (leaf_of c.states k) ≡ value c.net (trace u) (next_of c.nexts (bit_of c.states k))
  pub agree : Agree 0 (places c setup start t) w trace
  pub values : (u k : ℕ) → u < t → k < length c.bits → value net w (node_at (slice_index_or frames u []) k) ≡ value c.net (trace u) (node_at c.bits k)

pub record Before (c : CycleNet) (setup : Fixed) (start : StartState) (t : ℕ) (net : List Node) (sources : List ℕ) (leaves : ℕ) (frames : List (List BitNode)) : Type 0 where
  pub nodes : AreNodes net sources
  pub count : leaves ≡ length (places c setup start t)
  pub has : (i : ℕ) → has_leaf net i ≡ ltb i leaves
  pub long : length frames ≡ t
  pub are : AreFrames c net frames
  pub reached : (w : ℕ → Bool) → Reached c setup start t net sources frames w
