-- Assignments to the values of an environment.
use Rattle.std.proofs.Common.{◌≡◌, ℕ, ◌+◌, ◌-◌, ◌<◌, ◌≤◌, Bool, true, false, List, [], ◌∷◌, length, map, get_or, drop, sum_by, ap, ap₂, refl, sym, subst, ◌∙◌, arith, All, Option, if◌then◌else◌, ℤ, pos}
use Rattle.std.specs.Prelude.{slice_set, slice_index_or}
use Rattle.std.proofs.lemmas.List.{length-map, get_or-map, map-set, set-get_or, drop_more}
use Rattle.std.proofs.lemmas.List.Sums.{sum_by-cons, sum_by-drop_more}
use Rattle.bits_core.specs.Places.{placed, selected}
use Rattle.stmt_exec.specs.declared.aims.Target.{Target}
use Rattle.stmt_exec.specs.declared.aims.Spot.{Spot}
use Rattle.stmt_exec.specs.declared.aims.Spot.TheVariants as spot
use Rattle.stmt_exec.specs.Aims.{Hit, SpotTakes, IsTarget, spot_low, hit_of, one_written, all_written, all_count}
use Rattle.design_core.specs.Operators.{lowest}
use Rattle.value_domain.specs.Meaning.{Meaning, Stands, Keeps}
use Rattle.value_domain.specs.Words.{IsGuard, allows}
use Rattle.value_domain.proofs.KeepLaws.{keeps_trans}
use Rattle.stmt_exec.proofs.DomainLaws as d

written_back : (b : Bool) (rows : List (List Bool)) (k : ℕ) (p row : List Bool) → row ≡ get_or rows k [] → slice_set rows k (if b then p else row) ≡ (if b then slice_set rows k p else rows)
written_back true rows k p row e = refl
written_back false rows k p row e = ap (slice_set rows k) e ∙ set-get_or rows k []

step_in : {X : Type 0} (a : Bool) (F : X → X) (next one now : X) → next ≡ (if a then one else now) → (if a then F next else next) ≡ (if a then F one else now)
step_in true F next one now e = ap F e
step_in false F next one now e = e

module _ {S V : Type 0} (m : Meaning S V) where
  pub count_is : (d : S) (v : ℕ → Bool) (ts : List (Target V)) → all_count (map (hit_of m d v) ts) ≡ sum_by (λ (t : Target V). t.length) ts
  count_is d v [] = refl
  count_is d v (t ∷ ts) = let e = count_is d v ts in let f = sum_by-cons (λ (t : Target V). t.length) t ts in omega arith

  pub width_fits : (xs : List V) (k : ℕ) (x : V) → k < length (map m.width xs) → All (λ n. n ≤ 65536) (map m.width xs) → m.width (get_or xs k x) ≤ 65536
  width_fits xs k x l h = let n = length-map xs m.width in subst (λ n. n ≤ 65536) (get_or-map m.width xs k x (m.width x) (omega (arith, l, n))) (h k (m.width x) l)

  pub width_is : (xs : List V) (k : ℕ) (x : V) → k < length (map m.width xs) → x ≡ get_or xs k x → get_or (map m.width xs) k 0 ≡ m.width x
  width_is xs k x l is = let n = length-map xs m.width in get_or-map m.width xs k x 0 (omega (arith, l, n)) ∙ ap m.width (sym is)

  pub set_wide : (xs : List V) (k : ℕ) (x new : V) → k < length (map m.width xs) → x ≡ get_or xs k x → m.width new ≡ m.width (get_or xs k x) → map m.width (slice_set xs k new) ≡ map m.width xs
  set_wide xs k x new l is e = map-set m.width xs k new ∙ ap (slice_set (map m.width xs) k) (e ∙ ap m.width (sym is) ∙ sym (width_is xs k x l is)) ∙ set-get_or (map m.width xs) k 0

  pub kept_low : (d0 d1 : S) (v : ℕ → Bool) (wide n : ℕ) (at : Spot V) → Keeps m d0 d1 → SpotTakes m d0 wide n at → spot_low m d1 v at ≡ spot_low m d0 v at
  kept_low d0 d1 v wide n spot.Whole k h = refl
  kept_low d0 d1 v wide n (spot.At low) k h = refl
  kept_low d0 d1 v wide n (spot.Variable index start) k h = ap (lowest start.offset start.down start.signed) (k.same index.value v h.0.is_one)

  pub kept_hit : (d0 d1 : S) (v : ℕ → Bool) (widths : List ℕ) (t : Target V) → Keeps m d0 d1 → IsTarget m widths d0 t → hit_of m d1 v t ≡ hit_of m d0 v t
  kept_hit d0 d1 v widths t k h = ap (λ (z : ℤ). (let x : Hit = record { vector = t.vector; low = z; count = t.length } in x)) (kept_low d0 d1 v (slice_index_or widths t.vector 0) t.length t.spot k h.takes)

  pub one_made : (d0 d1 d2 : S) (guard : Option V) (t : Target V) (from : ℕ) (z : ℤ) (value bits x new : V) (xs : List V) → z ≡ pos from → IsGuard m d0 guard → m.is_value d0 value → All (m.is_value d0) xs
      → IsTarget m (map m.width xs) d0 t → x ≡ get_or xs t.vector x → Keeps m d0 d1 → Keeps m d1 d2
      → Stands m d1 bits t.length (λ v. selected z t.length (m.reads d0 v value))
      → Stands m d2 new (m.width (get_or xs t.vector x)) (λ v. if allows m d1 v guard then placed (spot_low m d1 v t.spot) (m.reads d1 v bits) (m.reads d1 v (get_or xs t.vector x)) else m.reads d1 v (get_or xs t.vector x))
      → (v : ℕ → Bool) → map (m.reads d2 v) (slice_set xs t.vector new)
      ≡ (if allows m d0 v guard then one_written (hit_of m d0 v t) from (m.reads d0 v value) (map (m.reads d0 v) xs) else map (m.reads d0 v) xs)
  one_made d0 d1 d2 guard t from z value bits x new xs at gi i all ti is k l b s v =
      let n = length-map xs m.width in
      let lt : t.vector < length xs = omega (arith, ti.there, n) in
      let one : m.is_value d0 (get_or xs t.vector x) = all t.vector x lt in
      let row : m.reads d1 v (get_or xs t.vector x) ≡ get_or (map (m.reads d0 v) xs) t.vector [] = k.same (get_or xs t.vector x) v one ∙ sym (get_or-map (m.reads d0 v) xs t.vector x [] lt) in
      map-set (m.reads d2 v) xs t.vector new
      ∙ ap₂ (λ rows y. slice_set rows t.vector y) (d.kept_reads m d0 d2 v xs (keeps_trans m d0 d1 d2 k l) all)
      (s.reads_as v
      ∙ ap (λ c. if c then placed (spot_low m d1 v t.spot) (m.reads d1 v bits) (m.reads d1 v (get_or xs t.vector x)) else m.reads d1 v (get_or xs t.vector x)) (d.kept_allows m d0 d1 v guard k gi)
      ∙ ap₂ (λ p y. if allows m d0 v guard then placed p y (m.reads d1 v (get_or xs t.vector x)) else m.reads d1 v (get_or xs t.vector x))
      (kept_low d0 d1 v (slice_index_or (map m.width xs) t.vector 0) t.length t.spot k ti.takes)
      (b.reads_as v ∙ ap (λ y. selected y t.length (m.reads d0 v value)) at)
      ∙ ap (λ y. if allows m d0 v guard then placed (spot_low m d0 v t.spot) (selected (pos from) t.length (m.reads d0 v value)) y else y) row)
      ∙ written_back (allows m d0 v guard) (map (m.reads d0 v) xs) t.vector
      (placed (spot_low m d0 v t.spot) (selected (pos from) t.length (m.reads d0 v value)) (get_or (map (m.reads d0 v) xs) t.vector []))
      (get_or (map (m.reads d0 v) xs) t.vector []) refl

  -- one more target written
  pub rest_step : (d0 dn d2 : S) (guard : Option V) (ts : List (Target V)) (at from : ℕ) (t : Target V) (value : V) (xs ys first : List V) (widths : List ℕ) → at < length ts → t ≡ get_or ts at t
      → IsGuard m d0 guard → m.is_value d0 value → IsTarget m widths d0 t → Keeps m d0 dn
      → from ≡ sum_by (λ (t : Target V). t.length) (drop (at + 1) ts) → (v : ℕ → Bool)
      → (if allows m d0 v guard then all_written (map (hit_of m d0 v) (drop at ts)) (m.reads d0 v value) (map (m.reads dn v) xs) else map (m.reads dn v) xs)
      ≡ (if allows m d0 v guard then all_written (map (hit_of m d0 v) ts) (m.reads d0 v value) (map (m.reads d0 v) first) else map (m.reads d0 v) first)
      → map (m.reads d2 v) ys ≡ (if allows m dn v guard then one_written (hit_of m dn v t) from (m.reads dn v value) (map (m.reads dn v) xs) else map (m.reads dn v) xs)
      → (if allows m d0 v guard then all_written (map (hit_of m d0 v) (drop (at + 1) ts)) (m.reads d0 v value) (map (m.reads d2 v) ys) else map (m.reads d2 v) ys)
      ≡ (if allows m d0 v guard then all_written (map (hit_of m d0 v) ts) (m.reads d0 v value) (map (m.reads d0 v) first) else map (m.reads d0 v) first)
  rest_step d0 dn d2 guard ts at from t value xs ys first widths lt is gi i ti k left v had new =
      let count : from ≡ all_count (map (hit_of m d0 v) (drop (at + 1) ts)) = left ∙ sym (count_is d0 v (drop (at + 1) ts)) in
      let whole : drop at ts ≡ t ∷ drop (at + 1) ts = drop_more ts at t lt ∙ ap (λ y. y ∷ drop (at + 1) ts) (sym is) in
      step_in (allows m d0 v guard) (all_written (map (hit_of m d0 v) (drop (at + 1) ts)) (m.reads d0 v value)) (map (m.reads d2 v) ys)
      (one_written (hit_of m d0 v t) (all_count (map (hit_of m d0 v) (drop (at + 1) ts))) (m.reads d0 v value) (map (m.reads dn v) xs)) (map (m.reads dn v) xs)
      (new ∙ ap (λ c. if c then one_written (hit_of m dn v t) from (m.reads dn v value) (map (m.reads dn v) xs) else map (m.reads dn v) xs) (d.kept_allows m d0 dn v guard k gi)
      ∙ ap (λ h. if allows m d0 v guard then one_written h from (m.reads dn v value) (map (m.reads dn v) xs) else map (m.reads dn v) xs) (kept_hit d0 dn v widths t k ti)
      ∙ ap₂ (λ n y. if allows m d0 v guard then one_written (hit_of m d0 v t) n y (map (m.reads dn v) xs) else map (m.reads dn v) xs) count (k.same value v i))
      ∙ ap (λ l. if allows m d0 v guard then all_written (map (hit_of m d0 v) l) (m.reads d0 v value) (map (m.reads dn v) xs) else map (m.reads dn v) xs) (sym whole)
      ∙ had

module _ {X : Type 0} where
  pub left_less : (ts : List (Target X)) (at : ℕ) (t : Target X) (left : ℕ) → at < length ts → left ≡ sum_by (λ (t : Target X). t.length) (drop at ts)
      → left - (get_or ts at t).length ≡ sum_by (λ (t : Target X). t.length) (drop (at + 1) ts)
  left_less ts at t left lt e = let s = sum_by-drop_more (λ (t : Target X). t.length) ts at t lt in omega arith
