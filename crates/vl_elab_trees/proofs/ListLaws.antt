-- Expressions one behind the other: their faults, and the sum of their lengths.
use Rattle.std.proofs.Common.{◌≡◌, ℕ, zero, suc, ◌+◌, ◌*◌, ◌≤◌, Bool, true, false, List, [], ◌∷◌, map, refl, sym, ap, ◌∙◌, Option, Some, None, ℤ, pos, negsuc, arith, true≢false}
use Rattle.std.specs.Prelude.{nat_lt, if◌then◌else◌}
use Rattle.std.proofs.lemmas.Bool.Decides.{nat_tests}
use Rattle.std.proofs.Math.Nat.{le-mul_of_pos_right, mul-le-mul_right}
use Rattle.std.proofs.lemmas.List.Sums.{sum_by-cons}
use Rattle.design_core.proofs.BoolLaws.{or_false}
use Rattle.design_core.specs.Formed.{Sized, all_lengths}
use Rattle.vl_tree.specs.declared.faults.Code.{Code}
use Rattle.vl_size.specs.declared.tree.Size.{Size}
use Rattle.vl_size.specs.declared.tree.Operands.TheVariants.{Apart}
use Rattle.vl_size.specs.declared.tree.Sizing.{Sizing}
use Rattle.vl_size.specs.declared.tree.Sizing.TheViews.{roll-out-Sizing}
use Rattle.vl_tree.specs.Order.{lower}
use Rattle.vl_size.specs.Sizings.{sizing_of, node_of, parts_of, faults_after}
use Rattle.vl_size.specs.Nodes.{total, times, sum_of, is_bad_count}
use Rattle.vl_size.specs.Owns.{at_least}
use Rattle.vl_size.specs.Placed.{placing, is_some_wide, alone}
use Rattle.vl_size.specs.Texts.{capped}
use Rattle.vl_elab_trees.specs.Nodes.{copies}
use Rattle.vl_elab_trees.proofs.KnownLaws.{lower_none, IsSmall, wide_at}

-- nothing is wrong with any of them, each by itself
abbrev pub Each : List Sizing → Type 0
Each [] = Unit {0}
Each (p ∷ ps) = ((node_of p).fault ≡ None) × ((placing p).wide (alone (node_of p)) ≡ false) × Each ps

pub record All (so_far : Bool) (o : Option Code) (ps : List Sizing) : Type 0 where
  pub parts : Each ps
  pub first : o ≡ None
  pub narrow : so_far ≡ false

pub each : (c x : Size) (is_first so_far : Bool) (o : Option Code) (ps : List Sizing) → faults_after o ps ≡ None → is_some_wide Apart c x is_first so_far (map placing ps) ≡ false → All so_far o ps
each c x is_first so_far o [] e w = record { parts = tt; first = e; narrow = w }
each c x is_first so_far o (p ∷ ps) e w =
    let all = each c x false _ (lower o (node_of p).fault) ps e w in
    let faults = lower_none o (node_of p).fault all.first in
    let wides = or_false so_far _ all.narrow in
    record { parts = (faults.1, wide_at Apart c x is_first p wides.1, all.parts); first = faults.0; narrow = wides.0 }

-- a part that goes to no function's input is as it is
pub as_it_is : (s : Sizing) → IsSmall s → at_least 0 s ≡ s
as_it_is s k = ap (λ n. sizing_of (record { size = (node_of s).size; least = n; operands = (node_of s).operands; narrow = (node_of s).narrow; constant = (node_of s).constant; fault = (node_of s).fault }) (parts_of s)) (sym k.least) ∙ roll-out-Sizing s

pub capped_same : (n : ℕ) → nat_lt 65536 (capped n) ≡ false → capped n ≡ n
capped_same n e = by (nat_lt 65536 n) refl
  where
    by : (t : Bool) → nat_lt 65536 n ≡ t → capped n ≡ n
    by false is = ap (λ t. if t then 65537 else n) is
    by true is = absurd (let l : capped n ≡ 65537 = ap (λ t. if t then 65537 else n) is in let f : nat_lt 65536 65537 ≡ false = sym (ap (nat_lt 65536) l) ∙ e in true≢false f)

not_capped : (n : ℕ) → n ≤ 65536 → capped n ≡ n
not_capped n l = grind (arith, nat_tests, l)

pub lengths_more : (y : Sized) (ys : List Sized) → all_lengths (y ∷ ys) ≡ y.length + all_lengths ys
lengths_more y ys = sum_by-cons (λ n. n) y.length (map (λ (x : Sized). x.length) ys)

below : (n : ℕ) → n ≤ 65536 → nat_lt 65536 n ≡ false
below n l = grind (arith, nat_tests, l)

pub total_same : (ps : List Sizing) → total ps ≤ 65536 → total ps ≡ sum_of ps
total_same ps l = capped_same (sum_of ps) (below (total ps) l)

some_copies : (k n : ℕ) → 1 ≤ k * n → 1 ≤ k
some_copies zero n l = absurd (omega (arith, l))
some_copies (suc k) n l = omega arith

-- so many copies of so many bits
pub times_same : (count : Option ℤ) (n : ℕ) → is_bad_count count ≡ false → 1 ≤ n → 1 ≤ times count n → times count n ≤ 65536 → copies count * n ≡ times count n
times_same (Some (pos k)) n bad l some most =
    let same = capped_same (k * n) (below (capped (k * n)) most) in
    let few : k ≤ 65536 = omega (arith, le-mul_of_pos_right k l, same, most) in
    ap (λ j. j * n) (not_capped k few) ∙ sym same
times_same (Some (negsuc k)) n bad l some most = cc
times_same None n bad l some most = cc

pub times_most : (count : Option ℤ) (n : ℕ) → is_bad_count count ≡ false → 1 ≤ times count n → times count n ≤ 65536 → n ≤ 65536
times_most (Some (pos k)) n bad some most =
    let same = capped_same (k * n) (below (capped (k * n)) most) in
    let one = some_copies k n (omega (arith, same, some)) in
    omega (arith, mul-le-mul_right n one, same, most)
times_most (Some (negsuc k)) n bad some most = cc
times_most None n bad some most = cc
