-- A net in which some leaves alone are left, numbered by their places; any other leaf is 0.
use Rattle.std.specs.Prelude.{◌≡◌, ℕ, ◌+◌, ◌≤◌, Bool, true, false, cond, eqb, List, [], ◌∷◌, map, Option, Some, None}
use Rattle.cyc_net.specs.declared.node.Node.{Node}
use Rattle.cyc_net.specs.declared.node.Node.TheVariants.{Const, Leaf, And, Xor, Mux}
use Rattle.cyc_net.specs.Nets.{value}

-- the numbers ascend from `low` on
abbrev pub Ascend : ℕ → List ℕ → Type 0
Ascend low [] = Unit {0}
Ascend low (x ∷ xs) = (low ≤ x) × Ascend (x + 1) xs

-- the place of a number, where the first of the list has the place k
abbrev pub place_from : ℕ → List ℕ → ℕ → Option ℕ
place_from k [] i = None
place_from k (x ∷ xs) i = cond (eqb x i) (Some k) (place_from (k + 1) xs i)

abbrev pub leaf_at : Option ℕ → Node
leaf_at None = Const false
leaf_at (Some k) = Leaf k

-- a node with its leaf by its place among these leaves
abbrev pub placed : List ℕ → Node → Node
placed leaves (Const b) = Const b
placed leaves (Leaf i) = leaf_at (place_from 0 leaves i)
placed leaves (And a b) = And a b
placed leaves (Xor a b) = Xor a b
placed leaves (Mux c a b) = Mux c a b

abbrev pub part_of : List ℕ → List Node → List Node
part_of leaves net = map (placed leaves) net

abbrev pub value_at : (ℕ → Bool) → Option ℕ → Bool
value_at v None = false
value_at v (Some k) = v k

-- the values of all leaves, from those at the places
abbrev pub by_places : List ℕ → (ℕ → Bool) → ℕ → Bool
by_places leaves v i = value_at v (place_from 0 leaves i)

-- the nodes of the part have the values that they have in the net where the leaves have those at their places, and all others 0
abbrev pub PartsAgree : Type 0
PartsAgree = (leaves : List ℕ) (net : List Node) (v : ℕ → Bool) (n : ℕ) → value (part_of leaves net) v n ≡ value net (by_places leaves v) n

-- a net as it is, or the part of it
abbrev pub node_in : Bool → List ℕ → Node → Node
node_in true leaves x = x
node_in false leaves x = placed leaves x

abbrev pub nodes_in : Bool → List ℕ → List Node → List Node
nodes_in true leaves net = net
nodes_in false leaves net = part_of leaves net
