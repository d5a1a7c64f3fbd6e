-- Words of nodes, the lowest bit first, and what they stand for under a valuation of the leaves.
use Rattle.std.specs.Prelude.{◌≡◌, ℕ, ◌<◌, Bool, not, ◌&&◌, ◌||◌, List, [], ◌∷◌, length, map, All}
use Rattle.std.specs.List.{list_all}
use Rattle.bits_core.specs.Places.{exclusive_or, is_set}
use Rattle.cyc_net.specs.declared.node.Node.{Node}
use Rattle.cyc_net.specs.Nets.{value}
use Rattle.net_ops.specs.declared.gates.Gate.{Gate}
use Rattle.net_ops.specs.declared.gates.Gate.TheVariants as kind
use Rattle.net_ops.specs.declared.words.Reduction.{Reduction}
use Rattle.net_ops.specs.declared.words.Reduction.TheVariants as over
use Rattle.design_core.specs.Operators.{is_odd}

-- numbers of nodes of the net
abbrev pub AreNodes : List Node → List ℕ → Type 0
AreNodes net xs = All (λ n. n < length net) xs

-- the bits of some nodes
abbrev pub read : List Node → (ℕ → Bool) → List ℕ → List Bool
read net v xs = map (value net v) xs

-- a node of the net with this bit
pub record IsBit (net : List Node) (node : ℕ) (bit : (ℕ → Bool) → Bool) : Type 0 where
  pub within : node < length net
  pub worth : (v : ℕ → Bool) → value net v node ≡ bit v

-- n nodes of the net with these bits
pub record IsWord (net : List Node) (xs : List ℕ) (n : ℕ) (bits : (ℕ → Bool) → List Bool) : Type 0 where
  pub are : AreNodes net xs
  pub long : length xs ≡ n
  pub reads : (v : ℕ → Bool) → read net v xs ≡ bits v

-- what a gate makes of two bits
abbrev pub gate_of : Gate → Bool → Bool → Bool
gate_of kind.And a b = a && b
gate_of kind.Or a b = a || b
gate_of kind.Xor a b = exclusive_or a b
gate_of kind.Xnor a b = not (exclusive_or a b)

-- an operator over a bit and those of a list, one after the other
abbrev pub folded : (Bool → Bool → Bool) → Bool → List Bool → Bool
folded f start [] = start
folded f start (x ∷ xs) = folded f (f start x) xs

-- what a gate over all bits makes of them
abbrev pub reduction : Reduction → List Bool → Bool
reduction over.And xs = list_all (λ bit. bit) xs
reduction over.Or xs = is_set xs
reduction over.Xor xs = is_odd xs
