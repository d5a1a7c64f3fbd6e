-- What the code keeps beside the walk over the nodes.
use Rattle.std.specs.Prelude.{◌≡◌, ℕ, ◌+◌, ◌<◌, ◌≤◌, ◌^◌, Bool, true, List, length, slice_index_or}
use Rattle.cyc_net.specs.declared.node.Node.{Node}
use Rattle.cyc_net.specs.declared.node.Node.TheVariants as node
use Rattle.cyc_net.specs.Nets.{value}
use Rattle.cnf_core.specs.declared.lit.Lit.{Lit}
use Rattle.cnf_core.specs.Gates.{gates_clauses, AllInputsBelow, extended}
use Rattle.tseitin_cnf.specs.Encoding.{Walk, leaf_values}

abbrev pub numbers : List ℕ → ℕ → ℕ
numbers xs n = slice_index_or xs n 0

-- a node that has a variable
abbrev pub IsNamed : List ℕ → ℕ → Type 0
IsNamed xs n = (n < length xs) × (1 ≤ numbers xs n) × (numbers xs n < 2 ^ 30)

abbrev pub InputsNamed : List ℕ → Node → Type 0
InputsNamed xs (node.Const b) = Unit {0}
InputsNamed xs (node.Leaf i) = Unit {0}
InputsNamed xs (node.And a b) = IsNamed xs a × IsNamed xs b
InputsNamed xs (node.Xor a b) = IsNamed xs a × IsNamed xs b
InputsNamed xs (node.Mux c a b) = IsNamed xs c × IsNamed xs a × IsNamed xs b

pub record Tracks (leaves : ℕ) (s : Walk) (variables : List ℕ) (last : ℕ) (clauses : List (List Lit)) : Type 0 where
  pub variable : (n : ℕ) → numbers variables n ≡ s.variable n
  pub last_is : s.last ≡ last
  pub count : s.last ≡ leaves + length s.gates
  pub clauses_are : clauses ≡ gates_clauses leaves s.gates

-- what holds after k nodes: the gates read variables before theirs, each node that is read has a variable, and its value
pub record Good (net : List Node) (read : ℕ → Bool) (leaves k : ℕ) (s : Walk) : Type 0 where
  pub count : s.last ≡ leaves + length s.gates
  pub few : length s.gates ≤ k
  pub inputs : AllInputsBelow leaves s.gates
  pub given : (m : ℕ) → m < k → read m ≡ true → (1 ≤ s.variable m) × (s.variable m ≤ s.last)
  pub values : (w : ℕ → Bool) (m : ℕ) → m < k → read m ≡ true → extended w leaves s.gates (s.variable m) ≡ value net (leaf_values w) m
