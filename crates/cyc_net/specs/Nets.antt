-- The values of a net's nodes under a valuation, which gives each leaf a bit.
use Rattle.std.specs.Prelude.{◌≡◌, ℕ, ◌+◌, ◌<◌, ◌≤◌, Bool, true, false, cond, eqb, ◌||◌, List, [], ◌∷◌, ◌++◌, length, slice_index_or}
use mathlib.Core.Bool.{not, beq, ◌&&◌}
use Rattle.cyc_net.specs.declared.node.Node.{Node}
use Rattle.cyc_net.specs.declared.node.Node.TheVariants.{Const, Leaf, And, Xor, Mux}

-- the value of a gate, from those of the nodes that it reads
abbrev pub gate_value : (ℕ → Bool) → (ℕ → Bool) → Node → Bool
gate_value leaves nodes (Const b) = b
gate_value leaves nodes (Leaf i) = leaves i
gate_value leaves nodes (And a b) = nodes a && nodes b
gate_value leaves nodes (Xor a b) = not (beq (nodes a) (nodes b))
gate_value leaves nodes (Mux c a b) = cond (nodes c) (nodes a) (nodes b)

abbrev pub bit_at : List Bool → ℕ → Bool
bit_at done n = slice_index_or done n false

-- the values of the nodes in their order, behind those that are done
abbrev pub run : (ℕ → Bool) → List Bool → List Node → List Bool
run v done [] = done
run v done (n ∷ ns) = run v (done ++ gate_value v (bit_at done) n ∷ []) ns

-- the value of the node with a number
unfoldable pub value : List Node → (ℕ → Bool) → ℕ → Bool
value net v n = bit_at (run v [] net) n

-- a node that reads numbers below n alone
abbrev pub ReadsBelow : ℕ → Node → Type 0
ReadsBelow n (Const b) = Unit {0}
ReadsBelow n (Leaf i) = Unit {0}
ReadsBelow n (And a b) = (a < n) × (b < n)
ReadsBelow n (Xor a b) = (a < n) × (b < n)
ReadsBelow n (Mux c a b) = (c < n) × (a < n) × (b < n)

-- each node reads lower numbers
abbrev pub AllRead : ℕ → List Node → Type 0
AllRead n [] = Unit {0}
AllRead n (x ∷ xs) = ReadsBelow n x × AllRead (n + 1) xs

-- node 0 is the constant 0, node 1 the constant 1, and each node reads lower numbers; there is room for 2^27
pub record IsNet (nodes : List Node) : Type 0 where
  pub rest : List Node
  pub begins : nodes ≡ Const false ∷ Const true ∷ rest
  pub reads : AllRead 0 nodes
  pub room : length nodes ≤ 134217728

abbrev pub is_leaf : ℕ → Node → Bool
is_leaf i (Const b) = false
is_leaf i (Leaf j) = eqb i j
is_leaf i (And a b) = false
is_leaf i (Xor a b) = false
is_leaf i (Mux c a b) = false

-- whether a leaf is among the nodes
abbrev pub has_leaf : List Node → ℕ → Bool
has_leaf [] i = false
has_leaf (x ∷ xs) i = is_leaf i x || has_leaf xs i

-- a leaf's number is below n
abbrev pub LeafBelow : ℕ → Node → Type 0
LeafBelow n (Const b) = Unit {0}
LeafBelow n (Leaf i) = i < n
LeafBelow n (And a b) = Unit {0}
LeafBelow n (Xor a b) = Unit {0}
LeafBelow n (Mux c a b) = Unit {0}

abbrev pub LeavesBelow : ℕ → List Node → Type 0
LeavesBelow n [] = Unit {0}
LeavesBelow n (x ∷ xs) = LeafBelow n x × LeavesBelow n xs

-- each node of the old net is one of the new, with the same value
pub record Extends (old new : List Node) : Type 0 where
  pub longer : length old ≤ length new
  pub same : (n : ℕ) (v : ℕ → Bool) → n < length old → value new v n ≡ value old v n

-- a net that has grown by gates alone: its nodes keep their values, and it has the leaves that it had
pub record Gated (old new : List Node) : Type 0 where
  pub longer : length old ≤ length new
  pub same : (n : ℕ) (v : ℕ → Bool) → n < length old → value new v n ≡ value old v n
  pub leaves : (i : ℕ) → has_leaf new i ≡ has_leaf old i

-- a node of the new net with the gate's value over the old one's
pub record IsPushed (old : List Node) (node : Node) (new : List Node) (at : ℕ) : Type 0 where
  pub within : at < length new
  pub worth : (v : ℕ → Bool) → value new v at ≡ gate_value v (value old v) node
  pub leaves : (i : ℕ) → has_leaf new i ≡ (has_leaf old i || is_leaf i node)

-- the value of a node is its gate's over the values of the nodes that it reads
abbrev pub NodesAreGates : Type 0
NodesAreGates = (net : List Node) (v : ℕ → Bool) (k : ℕ) (node : Node) → AllRead 0 net → k < length net → value net v k ≡ gate_value v (value net v) (slice_index_or net k node)

-- valuations that agree on the leaves of a net give its nodes the same values
abbrev pub LeavesDecide : Type 0
LeavesDecide = (net : List Node) (v w : ℕ → Bool) → ((i : ℕ) → has_leaf net i ≡ true → v i ≡ w i) → (k : ℕ) → value net v k ≡ value net w k

-- a variable whose value some node has under each valuation is a leaf of the net
abbrev pub WorthIsLeaf : Type 0
WorthIsLeaf = (net : List Node) (k i : ℕ) → ((v : ℕ → Bool) → value net v k ≡ v i) → has_leaf net i ≡ true
