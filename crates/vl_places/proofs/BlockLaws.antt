-- The items at the place of a block are its own.
use Rattle.std.proofs.Common.{◌≡◌, ℕ, false, List, [], ◌∷◌, ◌++◌, refl, ap, ◌∙◌, Some, None, if◌then◌else◌}
use Rattle.vl_items.specs.Parts.{Part, Parts, Body, region}
use Rattle.vl_places.specs.Places.{ItemAt, BlockAt, among, in_region, in_block, of_loop, of_if, of_else, of_arm, block_parts, item_at}
use Rattle.vl_places.specs.Steps.{Spot, spot, next, spot_from, parts_of_spot, is_region, branch, own_parts, region_at, region_parts, branch_parts}
use Rattle.vl_places.specs.Laws.{BlocksStandInPlace}

-- the last number of a place leads on from where the others do
one_more : (s : Spot) (at : List ℕ) (n : ℕ) → spot_from s (at ++ n ∷ []) ≡ next (spot_from s at).parts (spot_from s at).item n
one_more s [] n = refl
one_more s (k ∷ ks) n = one_more (next s.parts s.item k) ks n

onward : (s t : Spot) (at : List ℕ) (n : ℕ) → spot_from s at ≡ t → spot_from s (at ++ n ∷ []) ≡ next t.parts t.item n
onward s t at n e = one_more s at n ∙ ap (λ x. next x.parts x.item n) e

-- a spot that leads to an item
record Leads (s : Spot) (p : Part) : Type 0 where
  parts : Parts
  number : ℕ
  is : s ≡ spot parts (Some number)
  there : item_at parts number ≡ Some p

next_region : (ps qs : Parts) (k n : ℕ) → item_at ps k ≡ Some (region qs) → next ps (Some k) n ≡ spot qs (Some n)
next_region ps qs k n e = ap (λ o. if region_at o then spot (region_parts o) (Some n) else spot (branch_parts o n) None) e

next_block : (ps : Parts) (p : Part) (k n : ℕ) → item_at ps k ≡ Some p → is_region p ≡ false → next ps (Some k) n ≡ spot (block_parts (branch p n)) None
next_block ps p k n e f =
    ap (λ o. if region_at o then spot (region_parts o) (Some n) else spot (branch_parts o n) None) e
    ∙ ap (λ b. if b then spot (own_parts p) (Some n) else spot (block_parts (branch p n)) None) f

-- from an item that is no region to its block
to_block : (ps : Parts) (at : List ℕ) (p : Part) (n : ℕ) → Leads (spot_from (spot ps None) at) p → is_region p ≡ false
    → spot_from (spot ps None) (at ++ n ∷ []) ≡ spot (block_parts (branch p n)) None
to_block ps at p n i f = onward (spot ps None) (spot i.parts (Some i.number)) at n i.is ∙ next_block i.parts p i.number n i.there f

mutual
  item_spot : (ps : Parts) (at : List ℕ) (p : Part) → ItemAt ps at p → Leads (spot_from (spot ps None) at) p
  item_spot ps _ p (among {n = n} e) = record { parts = ps; number = n; is = refl; there = e }
  item_spot ps _ p (in_region {qs = qs} {at = at} n i e) =
      let r = item_spot ps at (region qs) i in
      record { parts = qs; number = n; is = onward (spot ps None) (spot r.parts (Some r.number)) at n r.is ∙ next_region r.parts qs r.number n r.there; there = e }
  item_spot ps _ p (in_block {at = at} {b = b} n i e) =
      record { parts = block_parts b; number = n; is = onward (spot ps None) (spot (block_parts b) None) at n (block_spot ps at b i); there = e }

  block_spot : (ps : Parts) (at : List ℕ) (b : Body) → BlockAt ps at b → spot_from (spot ps None) at ≡ spot (block_parts b) None
  block_spot ps _ b (of_loop {at = at} i) = to_block ps at _ 0 (item_spot ps at _ i) refl
  block_spot ps _ b (of_if {at = at} i) = to_block ps at _ 0 (item_spot ps at _ i) refl
  block_spot ps _ b (of_else {at = at} i) = to_block ps at _ 1 (item_spot ps at _ i) refl
  block_spot ps _ _ (of_arm {at = at} n i) = to_block ps at _ n (item_spot ps at _ i) refl

pub in_place : BlocksStandInPlace
in_place ps at b i = ap parts_of_spot (block_spot ps at b i)
