-- Leaves below a number.
use Rattle.std.specs.Prelude.{◌≡◌, ◌↔◌, ◌<◌, ℕ, true, List}
use Rattle.cyc_net.specs.declared.node.Node.{Node}
use Rattle.cyc_net.specs.Nets.{has_leaf, LeafBelow, LeavesBelow, IsPushed, Gated}

abbrev pub BelowIsHad : Type 0
BelowIsHad = (n : ℕ) (net : List Node) → LeavesBelow n net ↔ ((i : ℕ) → has_leaf net i ≡ true → i < n)

-- after one push
abbrev pub PushedStayBelow : Type 0
PushedStayBelow = (n : ℕ) (old new : List Node) (node : Node) (at : ℕ) → IsPushed old node new at → LeavesBelow n old → LeafBelow n node → LeavesBelow n new

-- after gates alone
abbrev pub GatedStayBelow : Type 0
GatedStayBelow = (n : ℕ) (old new : List Node) → Gated old new → LeavesBelow n old → LeavesBelow n new
