-- What a cycle net keeps.
use Rattle.std.specs.Prelude.{◌≡◌, ℕ, ◌+◌, ◌<◌, ◌≤◌, cond, eqb, List, [], ◌∷◌, length, slice_index_or, Option, Some, None}
use Rattle.cyc_net.specs.declared.cycle.BitLeaf.{BitLeaf}
use Rattle.cyc_net.specs.declared.cycle.BitNode.{BitNode}
use Rattle.cyc_net.specs.declared.cycle.CycleNet.{CycleNet}
use Rattle.cyc_net.specs.Nets.{has_leaf}

-- the bits ascend from `low` on
abbrev pub LeavesFrom : ℕ → List BitLeaf → Type 0
LeavesFrom low [] = Unit {0}
LeavesFrom low (p ∷ ps) = (low ≤ p.bit) × LeavesFrom (p.bit + 1) ps

abbrev pub NodesFrom : ℕ → List BitNode → Type 0
NodesFrom low [] = Unit {0}
NodesFrom low (p ∷ ps) = (low ≤ p.bit) × NodesFrom (p.bit + 1) ps

-- how often a leaf stands in a list
abbrev pub times : ℕ → List BitLeaf → ℕ
times i [] = 0
times i (p ∷ ps) = cond (eqb p.leaf i) 1 0 + times i ps

abbrev pub AreNodes : ℕ → List BitNode → Type 0
AreNodes n [] = Unit {0}
AreNodes n (p ∷ ps) = (p.node < n) × AreNodes n ps

-- the node of a bit, where the list has one; the first counts
abbrev pub node_of : List BitNode → ℕ → Option ℕ
node_of [] b = None
node_of (p ∷ ps) b = cond (eqb p.bit b) (Some p.node) (node_of ps b)

abbrev pub AllHave : List BitLeaf → List BitNode → Type 0
AllHave [] nexts = Unit {0}
AllHave (p ∷ ps) nexts = ((node : ℕ) × (node_of nexts p.bit ≡ Some node)) × AllHave ps nexts

-- a node that is there, else node 0, the constant 0
abbrev pub or_zero : Option ℕ → ℕ
or_zero None = 0
or_zero (Some n) = n

-- the node of a bit, and node 0 where the list has none
abbrev pub next_of : List BitNode → ℕ → ℕ
next_of ps b = or_zero (node_of ps b)

abbrev pub no_leaf : BitLeaf
no_leaf = record { bit = 0; leaf = 0 }

abbrev pub no_node : BitNode
no_node = record { bit = 0; node = 0 }

-- the leaf and the bit at a place of a list, and the bit and the node
abbrev pub leaf_of : List BitLeaf → ℕ → ℕ
leaf_of ps k = (slice_index_or ps k no_leaf).leaf

abbrev pub bit_of : List BitLeaf → ℕ → ℕ
bit_of ps k = (slice_index_or ps k no_leaf).bit

abbrev pub bit_at : List BitNode → ℕ → ℕ
bit_at ps k = (slice_index_or ps k no_node).bit

abbrev pub node_at : List BitNode → ℕ → ℕ
node_at ps k = (slice_index_or ps k no_node).node

-- bits ascend in each list, and nodes are of the net; the leaves of the net are those of `inputs` and `states`, none twice; each stored bit has a
-- next node
pub record IsCycleNet (c : CycleNet) : Type 0 where
  pub inputs : LeavesFrom 0 c.inputs
  pub states : LeavesFrom 0 c.states
  pub bits : NodesFrom 0 c.bits
  pub nexts : NodesFrom 0 c.nexts
  pub bit_nodes : AreNodes (length c.net) c.bits
  pub next_nodes : AreNodes (length c.net) c.nexts
  pub leaves : (i : ℕ) → times i c.inputs + times i c.states ≡ cond (has_leaf c.net i) 1 0
  pub have : AllHave c.states c.nexts
