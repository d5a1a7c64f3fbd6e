-- Expressions before they have a context: what is known of each, and of several.
use Rattle.std.specs.Prelude.{ℕ, max, Bool, true, false, ◌&&◌, ◌||◌, nat_eq, List, [], ◌∷◌, Option, None}
use Rattle.vl_tree.specs.declared.faults.Code.{Code}
use Rattle.vl_tree.specs.Order.{lower}
use Rattle.vl_size.specs.declared.tree.Size.{Size}
use Rattle.vl_size.specs.declared.tree.Node.{Node}
use Rattle.vl_size.specs.declared.tree.Sizing.{Sizing, out-Sizing, roll-Sizing}

abbrev pub sizing_of : Node → List Sizing → Sizing
sizing_of n ps = roll-Sizing (record { node = n; parts = ps })

abbrev pub node_of : Sizing → Node
node_of s = (out-Sizing s).node

abbrev pub parts_of : Sizing → List Sizing
parts_of s = (out-Sizing s).parts

abbrev pub length_of : Sizing → ℕ
length_of s = (node_of s).size.length

abbrev pub signed_of : Sizing → Bool
signed_of s = (node_of s).size.signed

-- the lowest of a code and those of all parts
abbrev pub faults_after : Option Code → List Sizing → Option Code
faults_after c [] = c
faults_after c (s ∷ ss) = faults_after (lower c (node_of s).fault) ss

abbrev pub faults_of : List Sizing → Option Code
faults_of ss = faults_after None ss

abbrev pub are_constant : List Sizing → Bool
are_constant [] = true
are_constant (s ∷ ss) = (node_of s).constant && are_constant ss

-- whether some part has the length 0
abbrev pub is_some_empty : List Sizing → Bool
is_some_empty [] = false
is_some_empty (s ∷ ss) = nat_eq (length_of s) 0 || is_some_empty ss

-- the largest length of the parts, with a sign where all have one
abbrev pub common : List Node → Size
common [] = record { length = 0; signed = true }
common (n ∷ ns) = record { length = max n.size.length (common ns).length; signed = n.size.signed && (common ns).signed }
