-- Tables by place.
use Rattle.std.proofs.Common.{◌≡◌, ℕ, ◌+◌, ◌-◌, ◌<◌, ◌≤◌, Bool, true, false, cond, eqb, List, [], ◌∷◌, ◌++◌, length, get_or, set, take, drop, replicate, length-set, refl, sym, ap, subst, ◌∙◌, arith, Option, Some, None, zero, suc, inl, inr, get_or-set_same, get_or-set_other}
use Rattle.std.proofs.lemmas.Bool.{cond-true, cond-false, eq-eqb, ne_eqb, cases_eq, cases_lt}
use Rattle.std.proofs.lemmas.List.{drop_more, drop_all, get_or_default, length-replicate}
use Rattle.std.proofs.lemmas.List.Sums.{fold_more}
use Rattle.cyc_net.specs.declared.cycle.BitLeaf.{BitLeaf}
use Rattle.cyc_net.specs.declared.cycle.BitNode.{BitNode}
use Rattle.cyc_net.specs.Cycles.{LeavesFrom, bit_of, next_of, node_of, no_leaf, or_zero}
use Rattle.unroller.specs.declared.setup.FixedBit.{FixedBit}
use Rattle.unroller.specs.Setups.{value_of}
use Rattle.unroller.specs.Tables.{IsPlaceOf}

pub padded : {X : Type 0} (xs : List X) (d : X) (b : ℕ) → get_or (xs ++ d ∷ []) b d ≡ get_or xs b d
padded [] d zero = refl
padded [] d (suc b) = refl
padded (x ∷ xs) d zero = refl
padded (x ∷ xs) d (suc b) = padded xs d b

pub put_at : {X : Type 0} (xs : List X) (n b : ℕ) (x d : X) → n < length xs → get_or (set xs n x) b d ≡ cond (eqb b n) x (get_or xs b d)
put_at xs n b x d lt =
    elim (cases_eq b n) [
      | inl e ↦ ap (λ (k : ℕ). get_or (set xs n x) k d) e ∙ get_or-set_same xs n x d lt ∙ sym (cond-true (eqb b n) x (get_or xs b d) (eq-eqb b n e))
      | inr ne ↦ get_or-set_other xs n b x d ne ∙ sym (cond-false (eqb b n) x (get_or xs b d) (ne_eqb b n ne))
    ]

-- the bits of a list ascend

from_low : (low : ℕ) (ps : List BitLeaf) (k : ℕ) → LeavesFrom low ps → k < length ps → low ≤ bit_of ps k
from_low low [] k a lt = absurd (omega arith)
from_low low (p ∷ ps) zero a lt = a.0
from_low low (p ∷ ps) (suc k) a lt = let h = from_low (p.bit + 1) ps k a.1 (omega arith) in let b = a.0 in omega (arith, h, b)

pub ascend : (low : ℕ) (ps : List BitLeaf) (j k : ℕ) → LeavesFrom low ps → j < k → k < length ps → bit_of ps j < bit_of ps k
ascend low [] j k a less lt = absurd (omega arith)
ascend low (p ∷ ps) j zero a less lt = absurd (omega arith)
ascend low (p ∷ ps) zero (suc k) a less lt = let h = from_low (p.bit + 1) ps k a.1 (omega arith) in omega (arith, h)
ascend low (p ∷ ps) (suc j) (suc k) a less lt = ascend (p.bit + 1) ps j k a.1 (omega arith) (omega arith)

apart : (ps : List BitLeaf) (j k : ℕ) → LeavesFrom 0 ps → j < length ps → k < length ps → (j ≡ k → ⊥) → bit_of ps j ≡ bit_of ps k → ⊥
apart ps j k a lj lk ne e = elim (cases_lt j k) [
  | inl less ↦ let h = ascend 0 ps j k a less lk in omega (arith, h, e)
  | inr ge ↦ let h = ascend 0 ps k j a (omega (arith, ge, ne)) lj in omega (arith, h, e)
]

bit_here : (ps : List BitLeaf) (i : ℕ) (p : BitLeaf) → i < length ps → p ≡ get_or ps i p → bit_of ps i ≡ p.bit
bit_here ps i p lt is = ap (λ (q : BitLeaf). q.bit) (get_or_default ps i no_leaf p lt ∙ sym is)

pub found : (ps : List BitLeaf) (i b : ℕ) (p : BitLeaf) → i < length ps → p ≡ get_or ps i p → p.bit ≡ b → IsPlaceOf ps b (Some i)
found ps i b p lt is e = (lt, bit_here ps i p lt is ∙ e)

pub below_more : (ps : List BitLeaf) (i b : ℕ) (p : BitLeaf) → LeavesFrom 0 ps → i < length ps → p ≡ get_or ps i p → p.bit < b → (k : ℕ) → k < i + 1 → bit_of ps k < b
below_more ps i b p a lt is less k lk =
    let here = bit_here ps i p lt is in
    elim (cases_eq k i) [
      | inl e ↦ subst (λ (j : ℕ). bit_of ps j < b) (sym e) (omega (arith, here, less))
      | inr ne ↦ let h = ascend 0 ps k i a (omega (arith, lk, ne)) lt in omega (arith, h, here, less)
    ]

pub above_more : (ps : List BitLeaf) (i b : ℕ) (p : BitLeaf) → LeavesFrom 0 ps → i < length ps → p ≡ get_or ps i p → (p.bit ≡ b → ⊥) → b ≤ p.bit → (k : ℕ) → i ≤ k → k < length ps → b < bit_of ps k
above_more ps i b p a lt is ne le k lk within =
    let here = bit_here ps i p lt is in
    elim (cases_eq k i) [
      | inl e ↦ subst (λ (j : ℕ). b < bit_of ps j) (sym e) (omega (arith, here, ne, le))
      | inr other ↦ let h = ascend 0 ps i k a (omega (arith, lk, other)) within in omega (arith, h, here, ne, le)
    ]

pub not_found : (ps : List BitLeaf) (low high b : ℕ) → high ≤ low → ((k : ℕ) → k < low → bit_of ps k < b) → ((k : ℕ) → high ≤ k → k < length ps → b < bit_of ps k) → IsPlaceOf ps b None
not_found ps low high b le below above k lt e = elim (cases_lt k low) [
  | inl less ↦ let h = below k less in omega (arith, h, e)
  | inr ge ↦ let h = above k (omega (arith, ge, le)) lt in omega (arith, h, e)
]

-- a value that is put at the place of a bit

eqb_turned : (a b : ℕ) → eqb a b ≡ eqb b a
eqb_turned a b = elim (cases_eq a b) [
  | inl e ↦ eq-eqb a b e ∙ sym (eq-eqb b a (sym e))
  | inr ne ↦ ne_eqb a b ne ∙ sym (ne_eqb b a (λ e. ne (sym e)))
]

put_more : {X : Type 0} (ps : List BitLeaf) (table : List X) (place b k : ℕ) (x d : X) → LeavesFrom 0 ps → place < length ps → bit_of ps place ≡ b → length table ≡ length ps → k < length ps
    → get_or (set table place x) k d ≡ cond (eqb (bit_of ps k) b) x (get_or table k d)
put_more ps table place b k x d a within e long lt =
    put_at table place k x d (omega (arith, within, long))
    ∙ elim (cases_eq k place) [
      | inl s ↦
          cond-true (eqb k place) x (get_or table k d) (eq-eqb k place s)
          ∙ sym (cond-true (eqb (bit_of ps k) b) x (get_or table k d) (eq-eqb (bit_of ps k) b (ap (bit_of ps) s ∙ e)))
      | inr ne ↦
          cond-false (eqb k place) x (get_or table k d) (ne_eqb k place ne)
          ∙ sym (cond-false (eqb (bit_of ps k) b) x (get_or table k d) (ne_eqb (bit_of ps k) b (λ s. apart ps k place a lt within ne (s ∙ sym e))))
    ]

none_more : {X : Type 0} (ps : List BitLeaf) (b k : ℕ) (x y : X) → IsPlaceOf ps b None → k < length ps → y ≡ cond (eqb (bit_of ps k) b) x y
none_more ps b k x y none lt = sym (cond-false (eqb (bit_of ps k) b) x y (ne_eqb (bit_of ps k) b (none k lt)))

value_more : (pins : List FixedBit) (i b : ℕ) (d : FixedBit) → i < length pins → d ≡ get_or pins i d → value_of (take (i + 1) pins) b ≡ cond (eqb b d.bit) (Some d.value) (value_of (take i pins) b)
value_more pins i b d lt is =
    fold_more (λ (o : Option Bool) (p : FixedBit). cond (eqb b p.bit) (Some p.value) o) None pins i d lt
    ∙ ap (λ (p : FixedBit). cond (eqb b p.bit) (Some p.value) (value_of (take i pins) b)) (sym is)

-- the table has a place for each bit, with the values of the pins so far
pub record Pinned (ps : List BitLeaf) (pins : List FixedBit) (i : ℕ) (table : List (Option Bool)) : Type 0 where
  pub long : length table ≡ length ps
  pub worth : (k : ℕ) → k < length ps → get_or table k None ≡ value_of (take i pins) (bit_of ps k)

module _ (ps : List BitLeaf) (pins : List FixedBit) (i : ℕ) (table : List (Option Bool)) (d : FixedBit) (a : LeavesFrom 0 ps) (lt : i < length pins) (is : d ≡ get_or pins i d) (p : Pinned ps pins i table) where
  pub pinned_put : (place : ℕ) → IsPlaceOf ps d.bit (Some place) → Pinned ps pins (i + 1) (set table place (Some d.value))
  pinned_put place here = record {
    long = length-set table place (Some d.value) ∙ p.long;
    worth = λ k lk.
        put_more ps table place d.bit k (Some d.value) None a here.0 here.1 p.long lk
        ∙ ap (cond (eqb (bit_of ps k) d.bit) (Some d.value)) (p.worth k lk) ∙ sym (value_more pins i (bit_of ps k) d lt is);
  }

  pub pinned_none : IsPlaceOf ps d.bit None → Pinned ps pins (i + 1) table
  pinned_none none = record {
    long = p.long;
    worth = λ k lk.
        p.worth k lk ∙ none_more ps d.bit k (Some d.value) (value_of (take i pins) (bit_of ps k)) none lk ∙ sym (value_more pins i (bit_of ps k) d lt is);
  }

or_zero_cond : (c : Bool) (n : ℕ) (o : Option ℕ) → or_zero (cond c (Some n) o) ≡ cond c n (or_zero o)
or_zero_cond true n o = refl
or_zero_cond false n o = refl

next_more : (nexts : List BitNode) (i b : ℕ) (d : BitNode) → i < length nexts → d ≡ get_or nexts i d → next_of (drop i nexts) b ≡ cond (eqb b d.bit) d.node (next_of (drop (i + 1) nexts) b)
next_more nexts i b d lt is =
    ap (λ (xs : List BitNode). next_of xs b) (drop_more nexts i d lt)
    ∙ ap (λ (p : BitNode). next_of (p ∷ drop (i + 1) nexts) b) (sym is)
    ∙ or_zero_cond (eqb d.bit b) d.node (node_of (drop (i + 1) nexts) b)
    ∙ ap (λ (c : Bool). cond c d.node (next_of (drop (i + 1) nexts) b)) (eqb_turned d.bit b)

-- the table has a place for each stored bit, with its node among the last so many
pub record Linked (ps : List BitLeaf) (nexts : List BitNode) (done : ℕ) (table : List ℕ) : Type 0 where
  pub long : length table ≡ length ps
  pub worth : (k : ℕ) → k < length ps → get_or table k 0 ≡ next_of (drop (length nexts - done) nexts) (bit_of ps k)

module _ (ps : List BitLeaf) (nexts : List BitNode) (done : ℕ) (table : List ℕ) (d : BitNode) (a : LeavesFrom 0 ps) (lt : done < length nexts) (is : d ≡ get_or nexts (length nexts - 1 - done) d) (l : Linked ps nexts done table) where
  here_more : (b : ℕ) → cond (eqb b d.bit) d.node (next_of (drop (length nexts - done) nexts) b) ≡ next_of (drop (length nexts - (done + 1)) nexts) b
  here_more b =
      let same : length nexts - 1 - done ≡ length nexts - (done + 1) = omega (arith, lt) in
      let more : length nexts - (done + 1) + 1 ≡ length nexts - done = omega (arith, lt) in
      ap (λ (i : ℕ). cond (eqb b d.bit) d.node (next_of (drop i nexts) b)) (sym more)
      ∙ sym (next_more nexts (length nexts - (done + 1)) b d (omega (arith, lt)) (subst (λ (i : ℕ). d ≡ get_or nexts i d) same is))

  pub linked_put : (place : ℕ) → IsPlaceOf ps d.bit (Some place) → Linked ps nexts (done + 1) (set table place d.node)
  linked_put place here = record {
    long = length-set table place d.node ∙ l.long;
    worth = λ k lk. put_more ps table place d.bit k d.node 0 a here.0 here.1 l.long lk ∙ ap (cond (eqb (bit_of ps k) d.bit) d.node) (l.worth k lk) ∙ here_more (bit_of ps k);
  }

  pub linked_none : IsPlaceOf ps d.bit None → Linked ps nexts (done + 1) table
  linked_none none = record {
    long = l.long;
    worth = λ k lk. l.worth k lk ∙ none_more ps d.bit k d.node (next_of (drop (length nexts - done) nexts) (bit_of ps k)) none lk ∙ here_more (bit_of ps k);
  }

all_alike : {X : Type 0} (n k : ℕ) (d : X) → get_or (replicate n d) k d ≡ d
all_alike zero k d = refl
all_alike (suc n) zero d = refl
all_alike (suc n) (suc k) d = all_alike n k d

pub pinned_start : (ps : List BitLeaf) (pins : List FixedBit) (table : List (Option Bool)) → table ≡ replicate (length ps) None → Pinned ps pins 0 table
pinned_start ps pins table e = record {
  long = ap length e ∙ length-replicate (length ps) None;
  worth = λ k lk. ap (λ (t : List (Option Bool)). get_or t k None) e ∙ all_alike (length ps) k None;
}

pub linked_start : (ps : List BitLeaf) (nexts : List BitNode) (table : List ℕ) → table ≡ replicate (length ps) 0 → Linked ps nexts 0 table
linked_start ps nexts table e = record {
  long = ap length e ∙ length-replicate (length ps) 0;
  worth = λ k lk.
      ap (λ (t : List ℕ). get_or t k 0) e ∙ all_alike (length ps) k 0
      ∙ sym (ap (λ (xs : List BitNode). next_of xs (bit_of ps k)) (drop_all (length nexts - 0) nexts (omega arith)));
}

pub linked_end : (ps : List BitLeaf) (nexts : List BitNode) (done : ℕ) (table : List ℕ) → length nexts ≤ done → Linked ps nexts done table → (k : ℕ) → k < length ps → get_or table k 0 ≡ next_of nexts (bit_of ps k)
linked_end ps nexts done table le l k lk = l.worth k lk ∙ ap (λ (i : ℕ). next_of (drop i nexts) (bit_of ps k)) (let e : length nexts - done ≡ 0 = omega (arith, le) in e)
