-- Writes to the values of an environment are the writes of the state that it stands for.
use Rattle.std.proofs.Common.{◌≡◌, ℕ, zero, suc, ◌+◌, ◌<◌, ◌≤◌, Bool, true, false, List, [], ◌∷◌, length, map, get_or, drop, ap, ap₂, refl, sym, subst, ◌∙◌, arith, inl, inr, if◌then◌else◌, ◌&&◌, Option, Some, None}
use Rattle.std.specs.Prelude.{nat_lt, ◌==◌, slice_set, ℤ, pos, negsuc, ◌+ℤ◌, ◌-ℤ◌}
use Rattle.std.proofs.Math.Path.{fun_ext}
use Rattle.std.proofs.lemmas.Int.{ints}
use Rattle.std.proofs.lemmas.Bool.{cases_eq, cases_lt, eq-eqb, ne_eqb, lt-ltb, le-ltb}
use Rattle.std.proofs.lemmas.List.{get_or-set_same, get_or-set_other, length-set, set-set, set-get_or, map-set, get_or-map, length-map, get_or-drop}
use Rattle.bits_core.specs.Places.{bit_at, written, placed, selected}
use Rattle.design_core.specs.Core.{bit, set_bit, set_local, spot, spots, Place, lost, place_of, placed_at, St, put, puts, joined, first_bit, rest_bits}
use Rattle.design_core.proofs.BoolLaws.{if_true, if_false}
use Rattle.value_domain.proofs.PlaceLaws.{length_placed, length_selected, selected_at, if_lt, if_ge, same_lists_bits}
use Rattle.value_domain.proofs.PlaceLaws as vp
use Rattle.stmt_exec.specs.State.{assignment}
use Rattle.stmt_exec.specs.Writes.{FitsAim, AllFit}
use Rattle.stmt_exec.specs.Aims.{Aim, base_in, aim_places, all_places, all_count, one_written, all_written}

-- one bit changed
module _ (rows : List (List Bool)) (s k : ℕ) (v : Bool) (there : s < length rows) (within : k < length (get_or rows s [])) where
  set_read : (p q : ℕ) → (if (p == s) && (q == k) then v else bit_at (get_or rows p []) q) ≡ bit_at (get_or (slice_set rows s (slice_set (get_or rows s []) k v)) p []) q
  set_read p q = elim (cases_eq p s) [
    | inl e ↦ elim (cases_eq q k) [
      | inl f ↦ if_true ((p == s) && (q == k)) v (bit_at (get_or rows p []) q) (ap₂ (λ x y. x && y) (eq-eqb p s e) (eq-eqb q k f))
          ∙ sym (ap₂ (λ x y. bit_at (get_or (slice_set rows s (slice_set (get_or rows s []) k v)) x []) y) e f
          ∙ ap (λ r. bit_at r k) (get_or-set_same rows s (slice_set (get_or rows s []) k v) [] there)
          ∙ get_or-set_same (get_or rows s []) k v false within)
      | inr g ↦ if_false ((p == s) && (q == k)) v (bit_at (get_or rows p []) q) (ap₂ (λ x y. x && y) (eq-eqb p s e) (ne_eqb q k g))
          ∙ sym (ap (λ x. bit_at (get_or (slice_set rows s (slice_set (get_or rows s []) k v)) x []) q) e
          ∙ ap (λ r. bit_at r q) (get_or-set_same rows s (slice_set (get_or rows s []) k v) [] there)
          ∙ get_or-set_other (get_or rows s []) k q v false g ∙ ap (λ x. bit_at (get_or rows x []) q) (sym e))
    ]
    | inr g ↦ if_false ((p == s) && (q == k)) v (bit_at (get_or rows p []) q) (ap (λ x. x && (q == k)) (ne_eqb p s g))
        ∙ sym (ap (λ r. bit_at r q) (get_or-set_other rows s p (slice_set (get_or rows s []) k v) [] g))
  ]

  pub set_assignment : set_bit (assignment rows) (bit s k) v ≡ assignment (set_local rows s k v)
  set_assignment = fun_ext (λ b. set_read b.signal b.bit)

-- the bits of one vector written one after the other, the highest first
abbrev pub put_row : List (Option ℕ) → List Bool → List Bool → List Bool
put_row [] us row = row
put_row (None ∷ os) us row = put_row os (rest_bits us) row
put_row (Some k ∷ os) us row = slice_set (put_row os (rest_bits us) row) k (first_bit us)

length_put_row : (os : List (Option ℕ)) (us row : List Bool) → length (put_row os us row) ≡ length row
length_put_row [] us row = refl
length_put_row (None ∷ os) us row = length_put_row os (rest_bits us) row
length_put_row (Some k ∷ os) us row = length-set (put_row os (rest_bits us) row) k (first_bit us) ∙ length_put_row os (rest_bits us) row

-- the bit at a distance from the lowest place that is written
abbrev put_at : List Bool → ℕ → ℤ → Bool → Bool
put_at us n (pos p) old = if nat_lt p n then bit_at us p else old
put_at us n (negsuc p) old = old

first_is : (us : List Bool) → first_bit us ≡ bit_at us 0
first_is [] = refl
first_is (u ∷ us) = refl

rest_is : (us : List Bool) (p : ℕ) → bit_at (rest_bits us) p ≡ bit_at us (suc p)
rest_is [] p = refl
rest_is (u ∷ us) p = refl

less_more : (p n : ℕ) (x y : Bool) → (if nat_lt p n then x else y) ≡ (if nat_lt (suc p) (suc n) then x else y)
less_more p n x y = elim (cases_lt p n) [
  | inl l ↦ if_lt p n x y l ∙ sym (if_lt (suc p) (suc n) x y (omega (arith, l)))
  | inr l ↦ if_ge p n x y l ∙ sym (if_ge (suc p) (suc n) x y (omega (arith, l)))
]

spot_is : (m k : ℕ) → k < m → spot m (pos k) ≡ Some k
spot_is m k l = ap (λ t. if t then Some k else None) (lt-ltb k m l)

-- one more place put leaves the other places
other_spot : (m k : ℕ) (z : ℤ) (os : List (Option ℕ)) (us row : List Bool) → (pos k ≡ z → ⊥) → bit_at (put_row (spot m z ∷ os) us row) k ≡ bit_at (put_row os (rest_bits us) row) k
other_spot m k (negsuc j) os us row h = refl
other_spot m k (pos j) os us row h = elim (nat_lt j m) as (λ t. bit_at (put_row ((if t then Some j else None) ∷ os) us row) k ≡ bit_at (put_row os (rest_bits us) row) k) [
  | true ↦ get_or-set_other (put_row os (rest_bits us) row) j k (first_bit us) false (λ e. h (ap pos e))
  | false ↦ refl
]

pub put_row_at : (n m k : ℕ) (z : ℤ) (us row : List Bool) → length row ≤ m → k < length row → (y : ℤ) → pos k -ℤ z ≡ y → bit_at (put_row (spots m z n) us row) k ≡ put_at us n y (bit_at row k)
put_row_at zero m k z us row le l (pos p) e = sym (if_ge p zero (bit_at us p) (bit_at row k) (omega arith))
put_row_at zero m k z us row le l (negsuc p) e = refl
put_row_at (suc n) m k z us row le l (pos zero) e =
    (let at : z ≡ pos k = omega (arith, ints, e) in
    ap (λ o. bit_at (put_row (o ∷ spots m (z +ℤ pos 1) n) us row) k) (ap (spot m) at ∙ spot_is m k (omega (arith, le, l)))
    ∙ get_or-set_same (put_row (spots m (z +ℤ pos 1) n) (rest_bits us) row) k (first_bit us) false (let w = length_put_row (spots m (z +ℤ pos 1) n) (rest_bits us) row in omega (arith, w, l))
    ∙ first_is us ∙ sym (if_lt zero (suc n) (bit_at us zero) (bit_at row k) (omega arith)))
put_row_at (suc n) m k z us row le l (pos (suc p)) e =
    other_spot m k z (spots m (z +ℤ pos 1) n) us row (λ q. (let f : pos k ≡ z = q in absurd (omega (arith, ints, e, f))))
    ∙ put_row_at n m k (z +ℤ pos 1) (rest_bits us) row le l (pos p) (omega (arith, ints, e))
    ∙ ap (λ b. if nat_lt p n then b else bit_at row k) (rest_is us p) ∙ less_more p n (bit_at us (suc p)) (bit_at row k)
put_row_at (suc n) m k z us row le l (negsuc p) e =
    other_spot m k z (spots m (z +ℤ pos 1) n) us row (λ q. (let f : pos k ≡ z = q in absurd (omega (arith, ints, e, f))))
    ∙ put_row_at n m k (z +ℤ pos 1) (rest_bits us) row le l (negsuc (suc p)) (omega (arith, ints, e))

-- a part written over a vector is its bits put one after the other
module _ (n m : ℕ) (z : ℤ) (us part row : List Bool) (le : length row ≤ m) (long : length part ≡ n) (same : (j : ℕ) → j < n → bit_at part j ≡ bit_at us j) where
  same_put : (k : ℕ) (y : ℤ) → written part y (bit_at row k) ≡ put_at us n y (bit_at row k)
  same_put k (negsuc p) = refl
  same_put k (pos p) = elim (cases_lt p n) [
    | inl l ↦ if_lt p (length part) (bit_at part p) (bit_at row k) (omega (arith, l, long)) ∙ same p l ∙ sym (if_lt p n (bit_at us p) (bit_at row k) l)
    | inr l ↦ if_ge p (length part) (bit_at part p) (bit_at row k) (omega (arith, l, long)) ∙ sym (if_ge p n (bit_at us p) (bit_at row k) l)
  ]

  pub put_row_is : put_row (spots m z n) us row ≡ placed z part row
  put_row_is = same_lists_bits (put_row (spots m z n) us row) (placed z part row) (length_put_row (spots m z n) us row ∙ sym (length_placed z part row)) (λ k l.
      (let w = length_put_row (spots m z n) us row in
      let h : k < length row = omega (arith, w, l) in
      put_row_at n m k z us row le h (pos k -ℤ z) refl ∙ sym (same_put k (pos k -ℤ z)) ∙ sym (vp.placed_at z part row k h)))

-- the rest of a list of bits
drop_rest : (n : ℕ) (vs : List Bool) → drop n (rest_bits vs) ≡ drop (suc n) vs
drop_rest zero [] = refl
drop_rest (suc n) [] = refl
drop_rest n (v ∷ vs) = refl

-- first the higher places are written, then the lower ones
puts_joined : (blocking : Bool) (ps qs : List Place) (vs : List Bool) (t : St) → puts blocking (joined ps qs) vs t ≡ puts blocking ps vs (puts blocking qs (drop (length ps) vs) t)
puts_joined blocking [] qs vs t = refl
puts_joined blocking (p ∷ ps) qs vs t = ap (put blocking p (first_bit vs)) (puts_joined blocking ps qs (rest_bits vs) t
    ∙ ap (λ us. puts blocking ps (rest_bits vs) (puts blocking qs us t)) (drop_rest (length ps) vs))

length_joined : (ps qs : List Place) → length (joined ps qs) ≡ length qs + length ps
length_joined [] qs = omega arith
length_joined (p ∷ ps) qs = let e = length_joined ps qs in omega arith

length_spots : (m n : ℕ) (z : ℤ) → length (spots m z n) ≡ n
length_spots m zero z = refl
length_spots m (suc n) z = ap suc (length_spots m n (z +ℤ pos 1))

length_placed_at : (inside : Bool) (s : ℕ) (os : List (Option ℕ)) → length (placed_at (base_in inside s) os) ≡ length os
length_placed_at inside s [] = refl
length_placed_at inside s (o ∷ os) = ap suc (length_placed_at inside s os)

length_places : (inside : Bool) (as' : List Aim) → length (all_places inside as') ≡ all_count (map (λ (a : Aim). a.hit) as')
length_places inside [] = refl
length_places inside (a ∷ as') =
    let e = length_joined (all_places inside as') (aim_places inside a) in
    let f = length_placed_at inside a.hit.vector (spots a.most a.hit.low a.hit.count) in
    let g = length_spots a.most a.hit.count a.hit.low in
    let h = length_places inside as' in
    omega arith

put_lost : (blocking : Bool) (v : Bool) (t : St) → put blocking lost v t ≡ t
put_lost true v t = refl
put_lost false v t = refl

place_none : (inside : Bool) (s : ℕ) → place_of (base_in inside s) None ≡ lost
place_none true s = refl
place_none false s = refl

set_row_twice : (rows : List (List Bool)) (s k : ℕ) (v : Bool) (row : List Bool) → s < length rows → set_local (slice_set rows s row) s k v ≡ slice_set rows s (slice_set row k v)
set_row_twice rows s k v row l = ap (λ r. slice_set (slice_set rows s row) s (slice_set r k v)) (get_or-set_same rows s row [] l) ∙ set-set rows s row (slice_set row k v)

-- writes to a vector, in a state that holds a list of vectors
module _ (blocking inside : Bool) (embed : List (List Bool) → St)
    (law : (rows : List (List Bool)) (s k : ℕ) (v : Bool) → s < length rows → (inside ≡ false → k < length (get_or rows s [])) → put blocking (place_of (base_in inside s) (Some k)) v (embed rows) ≡ embed (set_local rows s k v)) where
  -- a place is in a vector of a length
  abbrev AllBelow : ℕ → List (Option ℕ) → Type 0
  AllBelow m [] = Unit {0}
  AllBelow m (None ∷ os) = AllBelow m os
  AllBelow m (Some k ∷ os) = (k < m) × AllBelow m os

  spot_below : (m : ℕ) (z : ℤ) (os : List (Option ℕ)) → AllBelow m os → AllBelow m (spot m z ∷ os)
  spot_below m (negsuc j) os h = h
  spot_below m (pos j) os h = elim (cases_lt j m) [
    | inl l ↦ subst (λ t. AllBelow m ((if t then Some j else None) ∷ os)) (sym (lt-ltb j m l)) (l, h)
    | inr l ↦ subst (λ t. AllBelow m ((if t then Some j else None) ∷ os)) (sym (le-ltb j m l)) h
  ]

  spots_below : (m n : ℕ) (z : ℤ) → AllBelow m (spots m z n)
  spots_below m zero z = tt
  spots_below m (suc n) z = spot_below m z (spots m (z +ℤ pos 1) n) (spots_below m n (z +ℤ pos 1))

  puts_row : (rows : List (List Bool)) (s m : ℕ) (os : List (Option ℕ)) (us : List Bool) → s < length rows → (inside ≡ false → m ≤ length (get_or rows s [])) → AllBelow m os
      → puts blocking (placed_at (base_in inside s) os) us (embed rows) ≡ embed (slice_set rows s (put_row os us (get_or rows s [])))
  puts_row rows s m [] us l w h = ap embed (sym (set-get_or rows s []))
  puts_row rows s m (None ∷ os) us l w h =
      ap (λ p. put blocking p (first_bit us) (puts blocking (placed_at (base_in inside s) os) (rest_bits us) (embed rows))) (place_none inside s)
      ∙ put_lost blocking (first_bit us) (puts blocking (placed_at (base_in inside s) os) (rest_bits us) (embed rows))
      ∙ puts_row rows s m os (rest_bits us) l w h
  puts_row rows s m (Some k ∷ os) us l w h =
      let row = put_row os (rest_bits us) (get_or rows s []) in
      let e = get_or-set_same rows s row [] l in
      let n = length_put_row os (rest_bits us) (get_or rows s []) in
      ap (put blocking (place_of (base_in inside s) (Some k)) (first_bit us)) (puts_row rows s m os (rest_bits us) l w h.1)
      ∙ law (slice_set rows s row) s k (first_bit us) (let q = length-set rows s row in omega arith)
      (λ i. (let a = w i in let b = h.0 in let c = ap length e in omega arith))
      ∙ ap embed (set_row_twice rows s k (first_bit us) row l)

  width_row : (rows : List (List Bool)) (s : ℕ) → s < length rows → get_or (map length rows) s 0 ≡ length (get_or rows s [])
  width_row rows s l = get_or-map length rows s [] 0 l

  puts_aim : (rows : List (List Bool)) (a : Aim) (from : ℕ) (vs : List Bool) → FitsAim inside (map length rows) a
      → puts blocking (aim_places inside a) (drop from vs) (embed rows) ≡ embed (one_written a.hit from vs rows)
  puts_aim rows a from vs f =
      let n = length-map rows length in
      let l : a.hit.vector < length rows = omega (arith, f.there, n) in
      let w = width_row rows a.hit.vector l in
      puts_row rows a.hit.vector a.most (spots a.most a.hit.low a.hit.count) (drop from vs) l (λ i. (let q = f.least i in omega arith)) (spots_below a.most a.hit.count a.hit.low)
      ∙ ap (λ r. embed (slice_set rows a.hit.vector r)) (put_row_is a.hit.count a.most a.hit.low (drop from vs) (selected (pos from) a.hit.count vs) (get_or rows a.hit.vector [])
      (let q = f.most in omega arith) (length_selected (pos from) a.hit.count vs)
      (λ j h. selected_at (pos from) a.hit.count vs j h ∙ sym (get_or-drop from vs j false)))

  wide_after : (rows : List (List Bool)) (a : Aim) (from : ℕ) (vs : List Bool) → FitsAim inside (map length rows) a → map length (one_written a.hit from vs rows) ≡ map length rows
  wide_after rows a from vs f =
      let n = length-map rows length in
      let l : a.hit.vector < length rows = omega (arith, f.there, n) in
      map-set length rows a.hit.vector (placed a.hit.low (selected (pos from) a.hit.count vs) (get_or rows a.hit.vector []))
      ∙ ap (slice_set (map length rows) a.hit.vector) (length_placed a.hit.low (selected (pos from) a.hit.count vs) (get_or rows a.hit.vector []) ∙ sym (width_row rows a.hit.vector l))
      ∙ set-get_or (map length rows) a.hit.vector 0

  -- an assignment to a left side is the writes of its parts
  pub puts_all : (ws : List ℕ) (as' : List Aim) (vs : List Bool) (rows : List (List Bool)) → map length rows ≡ ws → AllFit inside ws as'
      → puts blocking (all_places inside as') vs (embed rows) ≡ embed (all_written (map (λ (a : Aim). a.hit) as') vs rows)
  puts_all ws [] vs rows e h = refl
  puts_all ws (a ∷ as') vs rows e h =
      let fit : FitsAim inside (map length rows) a = subst (λ w. FitsAim inside w a) (sym e) h.0 in
      puts_joined blocking (all_places inside as') (aim_places inside a) vs (embed rows)
      ∙ ap (λ n. puts blocking (all_places inside as') vs (puts blocking (aim_places inside a) (drop n vs) (embed rows))) (length_places inside as')
      ∙ ap (puts blocking (all_places inside as') vs) (puts_aim rows a (all_count (map (λ (a : Aim). a.hit) as')) vs fit)
      ∙ puts_all ws as' vs (one_written a.hit (all_count (map (λ (a : Aim). a.hit) as')) vs rows) (wide_after rows a (all_count (map (λ (a : Aim). a.hit) as')) vs fit ∙ e) h.1
