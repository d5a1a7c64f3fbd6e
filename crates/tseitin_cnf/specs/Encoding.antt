-- The gate formula of a node: leaf i is the variable i + 1, then a gate for each node that the goal reads.
use Rattle.std.specs.Prelude.{◌≡◌, ℕ, ◌+◌, ◌<◌, ◌≤◌, ◌^◌, Bool, true, false, cond, eqb, ◌||◌, List, [], ◌∷◌, ◌++◌, length, slice_index_or}
use mathlib.Core.Bool.{◌&&◌}
use Rattle.cyc_net.specs.declared.node.Node.{Node}
use Rattle.cyc_net.specs.declared.node.Node.TheVariants as node
use Rattle.cyc_net.specs.Nets.{value}
use Rattle.cnf_core.specs.declared.gate.Gate.{Gate}
use Rattle.cnf_core.specs.declared.gate.Gate.TheVariants as gate
use Rattle.cnf_core.specs.Lit.{literal_of}
use Rattle.cnf_core.specs.Gates.{gates_clauses, extended, IsGateFormula}
use Rattle.tseitin_cnf.specs.declared.encoding.Encoded.{Encoded}

-- the inputs of a gate are variables
abbrev pub InputsInRange : Gate → Type 0
InputsInRange (gate.Const b) = Unit {0}
InputsInRange (gate.And a b) = ((1 ≤ a) × (a < 2 ^ 30)) × ((1 ≤ b) × (b < 2 ^ 30))
InputsInRange (gate.Xor a b) = ((1 ≤ a) × (a < 2 ^ 30)) × ((1 ≤ b) × (b < 2 ^ 30))
InputsInRange (gate.Mux c a b) = ((1 ≤ c) × (c < 2 ^ 30)) × ((1 ≤ a) × (a < 2 ^ 30)) × ((1 ≤ b) × (b < 2 ^ 30))

-- whether a node reads the node m
abbrev pub reads_node : Node → ℕ → Bool
reads_node (node.Const b) m = false
reads_node (node.Leaf i) m = false
reads_node (node.And a b) m = eqb m a || eqb m b
reads_node (node.Xor a b) m = eqb m a || eqb m b
reads_node (node.Mux c a b) m = eqb m c || eqb m a || eqb m b

-- whether a node that is read, of those from number n on, reads the node m
abbrev pub is_input : (ℕ → Bool) → ℕ → List Node → ℕ → Bool
is_input read n [] m = false
is_input read n (x ∷ xs) m = (read n && reads_node x m) || is_input read (n + 1) xs m

-- the nodes that the goal reads: itself, and the inputs of those that it reads
abbrev pub IsReadSet : List Node → ℕ → (ℕ → Bool) → Type 0
IsReadSet net goal read = (m : ℕ) → read m ≡ (eqb m goal || is_input read 0 net m)

-- what a node reads that is read is read
abbrev pub IsReadClosed : List Node → (ℕ → Bool) → Type 0
IsReadClosed net read = (n m : ℕ) (d : Node) → n < length net → read n ≡ true → reads_node (slice_index_or net n d) m ≡ true → read m ≡ true

-- the variables of the nodes so far, the last variable given, and the gates of the variables after the leaves
pub record Walk : Type 0 where
  pub variable : ℕ → ℕ
  pub last : ℕ
  pub gates : List Gate

abbrev pub begin : ℕ → Walk
begin leaves = record { variable = λ n. 0; last = leaves; gates = [] }

abbrev pub named : Walk → ℕ → ℕ → (ℕ → ℕ)
named s n x = λ m. cond (eqb m n) x (s.variable m)

abbrev pub with_leaf : Walk → ℕ → ℕ → Walk
with_leaf s n i = record { variable = named s n (i + 1); last = s.last; gates = s.gates }

abbrev pub with_gate : Walk → ℕ → Gate → Walk
with_gate s n g = record { variable = named s n (s.last + 1); last = s.last + 1; gates = s.gates ++ g ∷ [] }

-- one more node that is read
abbrev pub with_node : Walk → ℕ → Node → Walk
with_node s n (node.Const b) = with_gate s n (gate.Const b)
with_node s n (node.Leaf i) = with_leaf s n i
with_node s n (node.And a b) = with_gate s n (gate.And (s.variable a) (s.variable b))
with_node s n (node.Xor a b) = with_gate s n (gate.Xor (s.variable a) (s.variable b))
with_node s n (node.Mux c a b) = with_gate s n (gate.Mux (s.variable c) (s.variable a) (s.variable b))

-- the nodes from number n on, in order, those left out that are not read
abbrev pub walk : (ℕ → Bool) → ℕ → Walk → List Node → Walk
walk read n s [] = s
walk read n s (x ∷ xs) = walk read (n + 1) (cond (read n) (with_node s n x) s) xs

-- an assignment of variables as a valuation of leaves
abbrev pub leaf_values : (ℕ → Bool) → (ℕ → Bool)
leaf_values w = λ i. w (i + 1)

-- the formula for a goal: its gates are those of the nodes that the goal reads, in the order of their numbers, and its last clause is the
-- goal's variable; under each assignment of the leaves the gates have the values of the nodes
pub record IsEncoded (net : List Node) (leaves goal : ℕ) (e : Encoded) : Type 0 where
  pub read : ℕ → Bool
  pub is_read : IsReadSet net goal read
  pub same_leaves : e.leaves ≡ leaves
  pub clauses : e.formula.clauses ≡ gates_clauses leaves (walk read 0 (begin leaves) net).gates ++ (literal_of ((walk read 0 (begin leaves) net).variable goal) true ∷ []) ∷ []
  pub variables : e.formula.variables ≡ leaves + length (walk read 0 (begin leaves) net).gates
  pub few_variables : e.formula.variables < 2 ^ 30
  pub few_clauses : length e.formula.clauses < 2 ^ 30
  pub gate_formula : IsGateFormula e.formula.clauses e.formula.variables leaves
  pub values : (w : ℕ → Bool) (n : ℕ) → n < length net → read n ≡ true → extended w leaves (walk read 0 (begin leaves) net).gates ((walk read 0 (begin leaves) net).variable n) ≡ value net (leaf_values w) n
  pub meets : (w : ℕ → Bool) → extended w leaves gate_formula.gates gate_formula.goal ≡ value net (leaf_values w) goal
