-- Lists of bits: what stands at a place, and lists side by side.
use Rattle.std.proofs.Common.{inl, inr, ◌⊎◌, ◌≤◌, ◌≡◌, ℕ, zero, suc, ◌+◌, ◌<◌, Bool, false, List, [], ◌∷◌, ◌++◌, length, get_or, drop, map, refl, sym, ◌∙◌, ap, ap₂, ℤ, pos, negsuc, ◌+ℤ◌, Option, Some, None, nat_lt, if◌then◌else◌, arith}
use Rattle.std.specs.List.{range_with_len}
use Rattle.std.proofs.lemmas.Int.{ints}
use Rattle.std.proofs.lemmas.List.{drop_more, append_assoc, get_or_past, length-map}
use Rattle.std.proofs.lemmas.List.FromFn.{get_or-map-range_with_len, length-map-range_with_len, map-range_with_len_more}
use Rattle.std.proofs.lemmas.Simd.{map-map}
use Rattle.std.proofs.Math.ListN.{get_or-map}
use Rattle.std.proofs.lemmas.Bool.Decides.{nat_tests}
use Rattle.design_core.specs.Core.{spot, spots}
use Rattle.bit_assigns.specs.Bits.{source_at, source_or_int, span_sources, span_targets, target_at, selected_sources, side_by_side}

-- two functions that agree everywhere give the same list
pub map_as : {A B : Type 0} (f g : A → B) → ((x : A) → f x ≡ g x) → (xs : List A) → map f xs ≡ map g xs
map_as f g h [] = refl
map_as f g h (x ∷ xs) = ap₂ (λ y ys. y ∷ ys) (h x) (map_as f g h xs)

-- one part more, on the high side
pub side_step : {A X : Type 0} (f : X → List A) (ps : List X) (k : ℕ) (d : X) → k < length ps
    → side_by_side (map f (drop k ps)) ≡ side_by_side (map f (drop (k + 1) ps)) ++ f (get_or ps k d)
side_step {A} f ps k d l = ap (λ xs. side_by_side {A = A} (map f xs)) (drop_more ps k d l)

-- the places one by one
places_from : (m : ℕ) (low : ℤ) (n a : ℕ) → spots m (low +ℤ pos a) n ≡ map (λ k. spot m (low +ℤ pos k)) (range_with_len a n)
places_from m low zero a = refl
places_from m low (suc n) a =
    let e : (low +ℤ pos a) +ℤ pos 1 ≡ low +ℤ pos (a + 1) = omega (arith, ints) in
    ap (λ xs. spot m (low +ℤ pos a) ∷ xs) (ap (λ z. spots m z n) e ∙ places_from m low n (a + 1))

pub spots_by_place : (m : ℕ) (low : ℤ) (n : ℕ) → spots m low n ≡ map (λ k. spot m (low +ℤ pos k)) (range_with_len 0 n)
spots_by_place m low n =
    let e : low ≡ low +ℤ pos 0 = omega (arith, ints) in
    ap (λ z. spots m z n) e ∙ places_from m low n 0

pub map_spots : {A : Type 0} (g : Option ℕ → A) (m : ℕ) (low : ℤ) (n : ℕ) → map g (spots m low n) ≡ map (λ k. g (spot m (low +ℤ pos k))) (range_with_len 0 n)
map_spots g m low n = ap (map g) (spots_by_place m low n) ∙ map-map g (λ k. spot m (low +ℤ pos k)) (range_with_len 0 n)

length_spots : (m : ℕ) (low : ℤ) (n : ℕ) → length (spots m low n) ≡ n
length_spots m low n = ap length (spots_by_place m low n) ∙ length-map-range_with_len (λ k. spot m (low +ℤ pos k)) 0 n

spot_past : (m j : ℕ) → m ≤ j → spot m (pos j) ≡ None
spot_past m j l = let f : nat_lt j m ≡ false = grind (arith, nat_tests) in ap (λ (c : Bool). if c then Some j else None) f

-- what stands at a place of a whole vector
whole_spot : (m j : ℕ) → (j < m) ⊎ (m ≤ j) → get_or (spots m (pos 0) m) j None ≡ spot m (pos j)
whole_spot m j (inl l) =
    let e : pos 0 +ℤ pos j ≡ pos j = omega (arith, ints) in
    ap (λ xs. get_or xs j None) (spots_by_place m (pos 0) m)
    ∙ get_or-map-range_with_len (λ k. spot m (pos 0 +ℤ pos k)) 0 m j j None l (omega arith)
    ∙ ap (spot m) e
whole_spot m j (inr l) = get_or_past (spots m (pos 0) m) j None (let w = length_spots m (pos 0) m in omega (arith, w, l)) ∙ sym (spot_past m j l)

side_of : (j m : ℕ) → (j < m) ⊎ (m ≤ j)
side_of j m = grind arith

pub whole_at : {A : Type 0} (g : Option ℕ → A) (m j : ℕ) → get_or (map g (spots m (pos 0) m)) j (g None) ≡ g (spot m (pos j))
whole_at g m j = get_or-map g (spots m (pos 0) m) j None ∙ ap g (whole_spot m j (side_of j m))

-- a select of a whole signal takes its own bits
whole_source : (s m : ℕ) (z : ℤ) → source_or_int (span_sources s m (pos 0) m) z ≡ source_at s m (spot m z)
whole_source s m (pos j) = whole_at (source_at s m) m j
whole_source s m (negsuc j) = refl

pub select_whole : (s m : ℕ) (low : ℤ) (n : ℕ) → selected_sources low n (span_sources s m (pos 0) m) ≡ span_sources s m low n
select_whole s m low n =
    map_as (λ k. source_or_int (span_sources s m (pos 0) m) (low +ℤ pos k)) (λ k. source_at s m (spot m (low +ℤ pos k))) (λ k. whole_source s m (low +ℤ pos k)) (range_with_len 0 n)
    ∙ sym (map_spots (source_at s m) m low n)

pub length_targets : (s m : ℕ) (low : ℤ) (n : ℕ) → length (span_targets s m low n) ≡ n
length_targets s m low n = length-map (spots m low n) (target_at s m) ∙ length_spots m low n

-- one place more of a list that is told by its places
pub one_more : {A : Type 0} (f : ℕ → A) (front now next : List A) (k : ℕ) (x : A) → next ≡ now ++ x ∷ [] → now ≡ front ++ map f (range_with_len 0 k) → x ≡ f k
    → next ≡ front ++ map f (range_with_len 0 (k + 1))
one_more f front now next k x pushed before is =
    let e : 0 + k ≡ k = omega arith in
    pushed ∙ ap₂ (λ xs y. xs ++ y ∷ []) before is
    ∙ append_assoc front (map f (range_with_len 0 k)) (f k ∷ [])
    ∙ ap (λ xs. front ++ xs) (sym (map-range_with_len_more f 0 k k e))
