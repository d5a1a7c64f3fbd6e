-- The first fault of a scope, where the names of its instances and blocks may clash.
use Rattle.std.specs.Prelude.{ℕ, ◌||◌, List, [], ◌∷◌, Option, Some, None, if◌then◌else◌}
use Rattle.vl_tree.specs.declared.faults.Code.{Code}
use Rattle.vl_tree.specs.declared.faults.Code.TheVariants.{NameClash}
use Rattle.vl_items.specs.Declarations.{is_among, added}
use Rattle.vl_marks.specs.declared.marks.Mark.{Mark}
use Rattle.vl_marks.specs.declared.marks.Mark.TheVariants.{Fault, Named}

abbrev pub names_at : Mark → List (List ℕ) → List (List ℕ)
names_at (Fault c) xs = xs
names_at (Named x) xs = added xs x

-- the names of instances and of blocks that are taken, the last one first
abbrev pub names_of : List Mark → List (List ℕ)
names_of [] = []
names_of (k ∷ ks) = names_at k (names_of ks)

-- a name clashes where the scope declares it, or where a later instance or block has it
abbrev pub fault_at_name : List (List ℕ) → List ℕ → Option Code → List (List ℕ) → Option Code
fault_at_name names x later behind = if is_among x names || is_among x behind then Some NameClash else later

abbrev pub fault_at : List (List ℕ) → Mark → Option Code → List (List ℕ) → Option Code
fault_at names (Fault c) later behind = Some c
fault_at names (Named x) later behind = fault_at_name names x later behind

-- The first fault. The name of an instance or a block is one where the scope declares it, or where a later instance or block has it too:
-- the first of several of one name is found before the others.
abbrev pub first_fault : List (List ℕ) → List Mark → Option Code
first_fault names [] = None
first_fault names (k ∷ ks) = fault_at names k (first_fault names ks) (names_of ks)
