-- The places that wait while a conflict is analysed.
use Rattle.std.proofs.Common.{◌≡◌, ℕ, ◌+◌, ◌<◌, ◌≤◌, Bool, true, false, cond, eqb, List, [], ◌∷◌, refl, sym, ap, subst, ◌∙◌, Option, Some, None, inl, inr, get_or, set, length, suc, arith, All, get_or-set_other}
use Rattle.std.specs.BinaryHeap.{IsHeap, PopsGreatest}
use Rattle.std.specs.List.Sorted.{IsPermutation}
use Rattle.std.specs.Option.{IfSome, IfNone}
use Rattle.std.specs.Ordering.{nat_cmp}
use Rattle.std.proofs.lemmas.Bool.{cases_eq, cases_lt, false≢true, ne_eqb, eq-eqb}
use Rattle.std.proofs.lemmas.Grind.{get_or-set_at}
use Rattle.std.proofs.lemmas.List.Elements.{All-tail}
use Rattle.std.proofs.lemmas.List.Sorted.{IsPermutation-refl, sum_by_pushed, sum_by_popped, le_from_greatest}
use Rattle.cnf_core.specs.declared.lit.Lit.{Lit}
use Rattle.cnf_core.specs.Lit.{variable_of}
use Rattle.sat_core.specs.declared.trail.Mark.{Mark}
use Rattle.sat_core.specs.Places.{StandsAt, times, IsPending, IsClear, IsNewest, NewestSays, RestBelow, AreBelow}
use Rattle.sat_core.specs.Rests.{needs}
use Rattle.sat_core.proofs.PlaceLaws.{no_mark, stands_here}

abbrev bit : Bool → ℕ
bit b = cond b 1 0

at_same : (k j : ℕ) → j ≡ k → ◌≡◌ {A = ℕ} (cond (eqb j k) 1 0) 1
at_same k j e = ap bit (eq-eqb j k e)

at_other : (k j : ℕ) → (j ≡ k → ⊥) → ◌≡◌ {A = ℕ} (cond (eqb j k) 1 0) 0
at_other k j ne = ap bit (ne_eqb j k ne)

one_true : (b : Bool) → (◌≡◌ {A = ℕ} (cond b 1 0) 0 → ⊥) → b ≡ true
one_true true h = refl
one_true false h = absurd (h refl)

zero_false : (b : Bool) → ◌≡◌ {A = ℕ} (cond b 1 0) 0 → b ≡ false
zero_false true h = absurd (omega arith)
zero_false false h = refl

one_at_most : (b : Bool) → cond b 1 0 ≤ 1
one_at_most true = omega arith
one_at_most false = omega arith

cons_times : (k j : ℕ) (ks : List ℕ) → times k (j ∷ ks) ≡ cond (eqb j k) 1 0 + times k ks
cons_times k j ks = sum_by_pushed (λ i. cond (eqb i k) 1 0) j ks (j ∷ ks) (IsPermutation-refl (j ∷ ks))

-- no place above all of a list is on it
none_above : (ks : List ℕ) (q k : ℕ) → All (λ j. j ≤ q) ks → q < k → times k ks ≡ 0
none_above [] q k h lt = refl
none_above (j ∷ js) q k h lt =
    let first : j ≤ q = h 0 0 (omega arith) in
    let rest = none_above js q k (All-tail (λ i. i ≤ q) j js h) lt in
    omega (arith, cons_times k j js, at_other k j (λ e. omega arith), rest)

flag_other : (flags : List Bool) (x y : ℕ) (b : Bool) → (y ≡ x → ⊥) → needs (set flags x b) y ≡ needs flags y
flag_other flags x y b ne = get_or-set_other flags x y b false ne

-- one more variable is flagged, and the place of its mark waits
module _ (marks : List Mark) (flags : List Bool) (waiting waiting' : List ℕ) (x p top bound : ℕ) (h : IsPending marks flags waiting top bound) (open_x : needs flags x ≡ false) (room : x < length flags) (there : StandsAt marks p x) (below : p < top) (pushed : IsPermutation (p ∷ waiting) waiting') where
  added_times : (k : ℕ) → times k waiting' ≡ cond (eqb p k) 1 0 + times k waiting
  added_times k = sum_by_pushed (λ i. cond (eqb i k) 1 0) p waiting waiting' pushed

  added_same : (k y : ℕ) → k ≡ p → y ≡ x → k < top → StandsAt marks k y → times k waiting' ≡ cond (needs (set flags x true) y) 1 0
  added_same k y e s lt at =
      let was = h.each k y lt at in
      let off : ◌≡◌ {A = ℕ} (cond (needs flags y) 1 0) 0 = ap bit (ap (needs flags) s ∙ open_x) in
      let now : ◌≡◌ {A = ℕ} (cond (needs (set flags x true) y) 1 0) 1 = ap bit (get_or-set_at flags x y true false s room) in
      omega (arith, added_times k, at_same k p (sym e), was, off, now)

  added_each : (k y : ℕ) → k < top → StandsAt marks k y → times k waiting' ≡ cond (needs (set flags x true) y) 1 0
  added_each k y lt at = elim (cases_eq k p) [
    | inl e ↦ added_same k y e (sym (at.of no_mark) ∙ ap (λ (j : ℕ). variable_of (get_or marks j no_mark).lit) e ∙ there.of no_mark) lt at
    | inr ne ↦
        let other : y ≡ x → ⊥ = λ s. ne (h.apart k p x (subst (StandsAt marks k) s at) there) in
        let now : ◌≡◌ {A = ℕ} (cond (needs (set flags x true) y) 1 0) (cond (needs flags y) 1 0) = ap bit (flag_other flags x y true other) in
        omega (arith, added_times k, at_other k p (λ e. ne (sym e)), h.each k y lt at, now)
  ]

  added_known : (y : ℕ) → needs (set flags x true) y ≡ true → (k : ℕ) × (k < bound) × StandsAt marks k y
  added_known y t = elim (cases_eq y x) [
    | inl e ↦ (p, (let o = h.order.0 in omega arith), subst (StandsAt marks p) (sym e) there)
    | inr ne ↦ h.known y (sym (flag_other flags x y true ne) ∙ t)
  ]

  pub added : IsPending marks (set flags x true) waiting' top bound
  added = record {
    apart = h.apart;
    each = added_each;
    above = λ k le. omega (arith, added_times k, at_other k p (λ e. omega arith), h.above k le);
    known = added_known;
    order = h.order;
  }

-- the greatest of the places is taken out
module _ (marks : List Mark) (flags : List Bool) (waiting waiting' : List ℕ) (q top : ℕ) (h : IsPending marks flags waiting top top) (popped : IsPermutation waiting (q ∷ waiting')) (most : All (λ j. j ≤ q) waiting) where
  popped_times : (k : ℕ) → times k waiting' + cond (eqb q k) 1 0 ≡ times k waiting
  popped_times k = sum_by_popped (λ i. cond (eqb i k) 1 0) q waiting waiting' popped

  popped_below : q < top
  popped_below = elim (cases_lt q top) [
    | inl lt ↦ lt
    | inr ge ↦ absurd (let none = h.above q ge in let t = popped_times q in let one = at_same q q refl in omega arith)
  ]

  popped_flagged : (x : ℕ) → StandsAt marks q x → needs flags x ≡ true
  popped_flagged x s = one_true (needs flags x) (λ e. let t = popped_times q in let one = at_same q q refl in let was = h.each q x popped_below s in omega arith)

  popped_between : (k x : ℕ) → q < k → k < top → StandsAt marks k x → needs flags x ≡ false
  popped_between k x lo hi s = zero_false (needs flags x) (sym (h.each k x hi s) ∙ none_above waiting q k most lo)

  popped_here : times q waiting' ≡ 0
  popped_here =
      let o = h.order.1 in
      let b = popped_below in
      let x : ℕ = variable_of (get_or marks q no_mark).lit in
      let was = h.each q x popped_below (stands_here marks q no_mark (omega arith)) in
      omega (arith, popped_times q, at_same q q refl, was, one_at_most (needs flags x))

  popped_above : (k : ℕ) → q ≤ k → times k waiting' ≡ 0
  popped_above k le = elim (cases_eq k q) [
    | inl e ↦ ap (λ (j : ℕ). times j waiting') e ∙ popped_here
    | inr ne ↦ omega (arith, popped_times k, none_above waiting q k most (omega arith))
  ]

  popped_known : (x : ℕ) → needs flags x ≡ true → (k : ℕ) × (k < q + 1) × StandsAt marks k x
  popped_known x t =
      let g = h.known x t in
      elim (cases_lt g.0 (q + 1)) [
        | inl lt ↦ (g.0, lt, g.2)
        | inr ge ↦ absurd (false≢true (sym (popped_between g.0 x (omega arith) g.1 g.2) ∙ t))
      ]

  popped_order : (q ≤ q + 1) × (q + 1 ≤ length marks)
  popped_order = let b = popped_below in let o = h.order.1 in (omega arith, omega arith)

  pub newest_popped : IsNewest marks flags waiting' q top
  newest_popped = record {
    below = popped_below;
    flagged = popped_flagged;
    between = popped_between;
    pending = record {
      apart = h.apart;
      each = λ k x lt s. omega (arith, popped_times k, at_other k q (λ e. omega arith), h.each k x (let b = popped_below in omega arith) s);
      above = popped_above;
      known = popped_known;
      order = popped_order;
    };
  }

none_left_at : (marks : List Mark) (flags : List Bool) (waiting : List ℕ) (top : ℕ) (h : IsPending marks flags waiting top top) (e : waiting ≡ []) (x : ℕ) (b : Bool) → needs flags x ≡ b → b ≡ false
none_left_at marks flags waiting top h e x true t = let g = h.known x t in zero_false true (ap bit (sym t) ∙ sym (h.each g.0 x g.1 g.2) ∙ ap (times g.0) e)
none_left_at marks flags waiting top h e x false t = refl

-- nothing waits, so nothing is flagged
pub none_left : (marks : List Mark) (flags : List Bool) (waiting : List ℕ) (top : ℕ) → IsPending marks flags waiting top top → waiting ≡ [] → IsClear flags waiting
none_left marks flags waiting top h e = record { none = λ x. none_left_at marks flags waiting top h e x (needs flags x) refl; empty = e }

none_left_by : (marks : List Mark) (flags : List Bool) (old new : List ℕ) (top : ℕ) → IsPending marks flags old top top → old ≡ [] → new ≡ old → IsClear flags new
none_left_by marks flags old new top h e s = record { none = (none_left marks flags old top h e).none; empty = s ∙ e }

-- the variable of the newest mark is flagged no more
module _ (marks : List Mark) (flags : List Bool) (waiting : List ℕ) (q v : ℕ) (room : v < length flags) (s : StandsAt marks q v) (h : IsPending marks flags waiting q (q + 1)) where
  finished_below : (k x : ℕ) → (x ≡ v → ⊥) → k < q + 1 → StandsAt marks k x → k < q
  finished_below k x ne lt at = elim (cases_eq k q) [
    | inl e ↦ absurd (ne (sym (at.of no_mark) ∙ ap (λ (j : ℕ). variable_of (get_or marks j no_mark).lit) e ∙ s.of no_mark))
    | inr other ↦ omega arith
  ]

  finished_known : (x : ℕ) → needs (set flags v false) x ≡ true → (k : ℕ) × (k < q) × StandsAt marks k x
  finished_known x t = elim (cases_eq x v) [
    | inl e ↦ absurd (false≢true (sym (get_or-set_at flags v x false false e room) ∙ t))
    | inr ne ↦ let g = h.known x (sym (flag_other flags v x false ne) ∙ t) in (g.0, finished_below g.0 x ne g.1 g.2, g.2)
  ]

  finished_other : (k x : ℕ) → k < q → StandsAt marks k x → x ≡ v → ⊥
  finished_other k x lt at e = let same = h.apart k q v (subst (StandsAt marks k) e at) s in omega arith

  pub finished : IsPending marks (set flags v false) waiting q q
  finished = record {
    apart = h.apart;
    each = λ k x lt at. h.each k x lt at ∙ ap bit (sym (flag_other flags v x false (finished_other k x lt at)));
    above = h.above;
    known = finished_known;
    order = (let o = h.order.1 in (omega arith, omega arith));
  }

-- before an analysis nothing waits
pub pending_none : (marks : List Mark) (flags : List Bool) (waiting : List ℕ) → ((j k x : ℕ) → StandsAt marks j x → StandsAt marks k x → j ≡ k) → IsClear flags waiting → IsPending marks flags waiting (length marks) (length marks)
pending_none marks flags waiting apart c = record {
  apart = apart;
  each = λ k x lt s. ap (times k) c.empty ∙ ap bit (sym (c.none x));
  above = λ k le. ap (times k) c.empty;
  known = λ x t. absurd (false≢true (sym (c.none x) ∙ t));
  order = (omega arith, omega arith);
}

-- the reason of the newest mark rests on marks before it
pub rest_is_below : (cs : List (List Lit)) (marks : List Mark) (flags : List Bool) (waiting : List ℕ) (q top r : ℕ) (m : Mark) → RestBelow cs marks → IsNewest marks flags waiting q top → top ≤ length marks → m ≡ get_or marks q m → m.reason ≡ suc r → AreBelow marks flags (get_or cs r []) q
rest_is_below cs marks flags waiting q top r m below n le is reason x has off k s =
    let b = n.below in
    elim (below q r m (omega arith) (ap (λ (i : Mark). i.reason) (sym is) ∙ reason) x has) [
      | inl e ↦ absurd (false≢true (sym off ∙ n.flagged x (subst (StandsAt marks q) (sym e) (stands_here marks q m (omega arith)))))
      | inr g ↦ let same = n.pending.apart k g.0 x s g.2 in let lt = g.1 in omega arith
    ]

pub all_below : (marks : List Mark) (flags : List Bool) (c : List Lit) → AreBelow marks flags c (length marks)
all_below marks flags c x has off k s = s.within

nil_by : (ks : List ℕ) → length ks ≡ 0 → ks ≡ []
nil_by [] e = refl
nil_by (k ∷ ks) e = absurd (omega arith)

-- what `pop` of the heap says
pub newest_says : (o : Option ℕ) (flags : List Bool) (old new : List ℕ) (n m : ℕ) → n ≡ length old → IsHeap nat_cmp old → IfSome o (λ x. IsPermutation old (x ∷ new)) → IfSome o (λ x. PopsGreatest nat_cmp old x new) → IfNone o (n ≡ 0) → IfNone o ((new ≡ old) × (m ≡ n))
    → NewestSays flags old flags new o
newest_says None flags old new n m count heap perm most zero same =
    λ marks top h. none_left_by marks flags old new top h (nil_by old (sym count ∙ zero)) same.0
newest_says (Some q) flags old new n m count heap perm most zero same =
    λ marks top h. newest_popped marks flags old new q top h perm (le_from_greatest q old (most heap).1)
