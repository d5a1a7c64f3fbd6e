-- Nets in which some leaves alone are left.
use Rattle.std.proofs.Common.{◌≡◌, ℕ, zero, suc, ◌+◌, ◌<◌, ◌≤◌, ◌||◌, ◌&&◌, Bool, true, false, cond, eqb, List, [], ◌∷◌, ◌++◌, length, map, get_or, Option, Some, None, refl, sym, ap, ap₂, subst, ◌∙◌, arith, inl, inr}
use Rattle.std.proofs.lemmas.Bool.{cond-true, cond-false, eq-eqb, ne_eqb, cases_eq, cases_lt}
use Rattle.std.proofs.lemmas.List.{get_or-map, length-map}
use Rattle.cyc_net.specs.declared.node.Node.{Node}
use Rattle.cyc_net.specs.declared.node.Node.TheVariants.{Const, Leaf, And, Xor, Mux}
use Rattle.cyc_net.specs.Nets.{value, run, gate_value, bit_at, ReadsBelow, AllRead, LeafBelow, LeavesBelow}
use Rattle.tseitin_cnf.specs.Encoding.{reads_node, is_input, IsReadSet}
use Rattle.tseitin_cnf.specs.Parts.{Ascend, place_from, leaf_at, placed, part_of, value_at, by_places, node_in, nodes_in}

-- places in a list that ascends

from_low : (low : ℕ) (xs : List ℕ) (k : ℕ) → Ascend low xs → k < length xs → low ≤ get_or xs k 0
from_low low [] k a lt = absurd (omega arith)
from_low low (x ∷ xs) zero a lt = a.0
from_low low (x ∷ xs) (suc k) a lt = let h = from_low (x + 1) xs k a.1 (omega arith) in let b = a.0 in omega (arith, h, b)

ascend : (low : ℕ) (xs : List ℕ) (j k : ℕ) → Ascend low xs → j < k → k < length xs → get_or xs j 0 < get_or xs k 0
ascend low [] j k a less lt = absurd (omega arith)
ascend low (x ∷ xs) j zero a less lt = absurd (omega arith)
ascend low (x ∷ xs) zero (suc k) a less lt = let h = from_low (x + 1) xs k a.1 (omega arith) in omega (arith, h)
ascend low (x ∷ xs) (suc j) (suc k) a less lt = ascend (x + 1) xs j k a.1 (omega arith) (omega arith)

pub below_more : (xs : List ℕ) (i n : ℕ) → Ascend 0 xs → i < length xs → get_or xs i 0 < n → (k : ℕ) → k < i + 1 → get_or xs k 0 < n
below_more xs i n a lt less k lk =
    elim (cases_eq k i) [
      | inl e ↦ subst (λ (j : ℕ). get_or xs j 0 < n) (sym e) less
      | inr ne ↦ let h = ascend 0 xs k i a (omega (arith, lk, ne)) lt in omega (arith, h, less)
    ]

pub above_more : (xs : List ℕ) (i n : ℕ) → Ascend 0 xs → i < length xs → (get_or xs i 0 ≡ n → ⊥) → n ≤ get_or xs i 0 → (k : ℕ) → i ≤ k → k < length xs → n < get_or xs k 0
above_more xs i n a lt ne le k lk within =
    elim (cases_eq k i) [
      | inl e ↦ subst (λ (j : ℕ). n < get_or xs j 0) (sym e) (omega (arith, ne, le))
      | inr other ↦ let h = ascend 0 xs i k a (omega (arith, lk, other)) within in omega (arith, h, ne, le)
    ]

found_from : (low j : ℕ) (xs : List ℕ) (k n : ℕ) → Ascend low xs → k < length xs → get_or xs k 0 ≡ n → place_from j xs n ≡ Some (j + k)
found_from low j [] k n a lt e = absurd (omega arith)
found_from low j (x ∷ xs) zero n a lt e = cond-true (eqb x n) (Some j) (place_from (j + 1) xs n) (eq-eqb x n e) ∙ ap (λ (i : ℕ). Some i) (omega arith)
found_from low j (x ∷ xs) (suc k) n a lt e =
    let h = from_low (x + 1) xs k a.1 (omega arith) in
    cond-false (eqb x n) (Some j) (place_from (j + 1) xs n) (ne_eqb x n (λ s. omega (arith, h, e, s)))
    ∙ found_from (x + 1) (j + 1) xs k n a.1 (omega arith) e ∙ ap (λ (i : ℕ). Some i) (omega arith)

pub found : (xs : List ℕ) (k n : ℕ) → Ascend 0 xs → k < length xs → get_or xs k 0 ≡ n → Some k ≡ place_from 0 xs n
found xs k n a lt e = sym (found_from 0 0 xs k n a lt e ∙ ap (λ (i : ℕ). Some i) (omega arith))

none_from : (j : ℕ) (xs : List ℕ) (n : ℕ) → ((k : ℕ) → k < length xs → get_or xs k 0 ≡ n → ⊥) → place_from j xs n ≡ None
none_from j [] n h = refl
none_from j (x ∷ xs) n h =
    cond-false (eqb x n) (Some j) (place_from (j + 1) xs n) (ne_eqb x n (h 0 (omega arith)))
    ∙ none_from (j + 1) xs n (λ k lt. h (suc k) (omega arith))

pub not_found : (xs : List ℕ) (low high n : ℕ) → high ≤ low → ((k : ℕ) → k < low → get_or xs k 0 < n) → ((k : ℕ) → high ≤ k → k < length xs → n < get_or xs k 0) → None ≡ place_from 0 xs n
not_found xs low high n le below above = sym (none_from 0 xs n (λ k lt e. elim (cases_lt k low) [
  | inl less ↦ let h = below k less in omega (arith, h, e)
  | inr ge ↦ let h = above k (omega (arith, ge, le)) lt in omega (arith, h, e)
]))

-- a place is below the length

within_by : (c : Bool) (j n : ℕ) (o : Option ℕ) → j < n → ((k : ℕ) → o ≡ Some k → k < n) → (k : ℕ) → cond c (Some j) o ≡ Some k → k < n
within_by true j n o lt h k e = let s : j ≡ k = cc in omega (arith, lt, s)
within_by false j n o lt h k e = h k e

within_from : (j : ℕ) (xs : List ℕ) (i : ℕ) (k : ℕ) → place_from j xs i ≡ Some k → k < j + length xs
within_from j [] i k e = absurd cc
within_from j (x ∷ xs) i k e =
    within_by (eqb x i) j (j + length (x ∷ xs)) (place_from (j + 1) xs i) (omega arith)
    (λ m f. let h = within_from (j + 1) xs i m f in omega (arith, h)) k e

leaf_within : (n : ℕ) (o : Option ℕ) → ((k : ℕ) → o ≡ Some k → k < n) → LeafBelow n (leaf_at o)
leaf_within n None h = tt
leaf_within n (Some k) h = h k refl

placed_below : (xs : List ℕ) (x : Node) → LeafBelow (length xs) (placed xs x)
placed_below xs (Const b) = tt
placed_below xs (Leaf i) = leaf_within (length xs) (place_from 0 xs i) (λ k e. let h = within_from 0 xs i k e in omega (arith, h))
placed_below xs (And a b) = tt
placed_below xs (Xor a b) = tt
placed_below xs (Mux c a b) = tt

pub part_below : (xs : List ℕ) (net : List Node) → LeavesBelow (length xs) (part_of xs net)
part_below xs [] = tt
part_below xs (x ∷ net) = (placed_below xs x, part_below xs net)

-- what the nodes of a part read

leaf_reads : (n : ℕ) (o : Option ℕ) → ReadsBelow n (leaf_at o)
leaf_reads n None = tt
leaf_reads n (Some k) = tt

placed_reads : (n : ℕ) (xs : List ℕ) (x : Node) → ReadsBelow n x → ReadsBelow n (placed xs x)
placed_reads n xs (Const b) r = tt
placed_reads n xs (Leaf i) r = leaf_reads n (place_from 0 xs i)
placed_reads n xs (And a b) r = r
placed_reads n xs (Xor a b) r = r
placed_reads n xs (Mux c a b) r = r

pub node_reads : (n : ℕ) (whole : Bool) (xs : List ℕ) (x : Node) → ReadsBelow n x → ReadsBelow n (node_in whole xs x)
node_reads n true xs x r = r
node_reads n false xs x r = placed_reads n xs x r

part_read : (n : ℕ) (xs : List ℕ) (net : List Node) → AllRead n net → AllRead n (part_of xs net)
part_read n xs [] h = tt
part_read n xs (x ∷ net) h = (placed_reads n xs x h.0, part_read (n + 1) xs net h.1)

pub all_read : (whole : Bool) (xs : List ℕ) (net : List Node) → AllRead 0 net → AllRead 0 (nodes_in whole xs net)
all_read true xs net h = h
all_read false xs net h = part_read 0 xs net h

pub as_long : (whole : Bool) (xs : List ℕ) (net : List Node) → length (nodes_in whole xs net) ≡ length net
as_long true xs net = refl
as_long false xs net = length-map net (placed xs)

pub node_there : (whole : Bool) (xs : List ℕ) (net : List Node) (at : ℕ) (x : Node) → at < length net → x ≡ get_or net at x → node_in whole xs x ≡ get_or (nodes_in whole xs net) at (node_in whole xs x)
node_there true xs net at x lt is = is
node_there false xs net at x lt is = ap (placed xs) is ∙ sym (get_or-map (placed xs) net at x (placed xs x) lt)

leaf_same : (o : Option ℕ) (m : ℕ) → reads_node (leaf_at o) m ≡ false
leaf_same None m = refl
leaf_same (Some k) m = refl

placed_same : (xs : List ℕ) (x : Node) (m : ℕ) → reads_node (placed xs x) m ≡ reads_node x m
placed_same xs (Const b) m = refl
placed_same xs (Leaf i) m = leaf_same (place_from 0 xs i) m
placed_same xs (And a b) m = refl
placed_same xs (Xor a b) m = refl
placed_same xs (Mux c a b) m = refl

inputs_same : (read : ℕ → Bool) (n : ℕ) (xs : List ℕ) (net : List Node) (m : ℕ) → is_input read n (part_of xs net) m ≡ is_input read n net m
inputs_same read n xs [] m = refl
inputs_same read n xs (x ∷ net) m = ap₂ (λ (p q : Bool). (read n && p) || q) (placed_same xs x m) (inputs_same read (n + 1) xs net m)

pub read_in : (whole : Bool) (xs : List ℕ) (net : List Node) (goal : ℕ) (read : ℕ → Bool) → IsReadSet net goal read → IsReadSet (nodes_in whole xs net) goal read
read_in true xs net goal read h = h
read_in false xs net goal read h = λ m. h m ∙ ap (λ (b : Bool). eqb m goal || b) (sym (inputs_same read 0 xs net m))

-- the values of a part

leaf_value : (v nodes : ℕ → Bool) (o : Option ℕ) → gate_value v nodes (leaf_at o) ≡ value_at v o
leaf_value v nodes None = refl
leaf_value v nodes (Some k) = refl

placed_value : (xs : List ℕ) (v nodes : ℕ → Bool) (x : Node) → gate_value v nodes (placed xs x) ≡ gate_value (by_places xs v) nodes x
placed_value xs v nodes (Const b) = refl
placed_value xs v nodes (Leaf i) = leaf_value v nodes (place_from 0 xs i)
placed_value xs v nodes (And a b) = refl
placed_value xs v nodes (Xor a b) = refl
placed_value xs v nodes (Mux c a b) = refl

run_part : (xs : List ℕ) (v : ℕ → Bool) (done : List Bool) (net : List Node) → run v done (part_of xs net) ≡ run (by_places xs v) done net
run_part xs v done [] = refl
run_part xs v done (x ∷ net) =
    run_part xs v (done ++ gate_value v (bit_at done) (placed xs x) ∷ []) net
    ∙ ap (λ (b : Bool). run (by_places xs v) (done ++ b ∷ []) net) (placed_value xs v (bit_at done) x)

pub part_value : (xs : List ℕ) (net : List Node) (v : ℕ → Bool) (n : ℕ) → value (part_of xs net) v n ≡ value net (by_places xs v) n
unfolding value
part_value xs net v n = ap (λ (bs : List Bool). get_or bs n false) (run_part xs v [] net)
