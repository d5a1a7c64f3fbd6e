-- What a conflict rests on is implied by the reasons between.
use Rattle.std.proofs.Common.{◌≡◌, ℕ, ◌-◌, ◌≤◌, Bool, true, false, cond, eqb, ◌||◌, List, [], ◌∷◌, ◌++◌, refl, sym, ap, ◌∙◌, Option, Some, None, inl, inr, ◌⊎◌, slice_get, get_or, ℤ, pos, negsuc, zero, suc, arith}
use Rattle.std.specs.List.{fold}
use Rattle.std.specs.Int.RustNames.{unsigned_abs}
use lib.IntN.{neg_ℤ}
use lib.Signed.{lt_z}
use Rattle.std.proofs.lemmas.Bool.{cases_eq, false≢true, cond-false, eq-eqb, ne_eqb, lt-ltb}
use Rattle.std.proofs.lemmas.Grind.{fold-append}
use Rattle.std.proofs.lemmas.Option.{get_or_from_slice_get}
use mathlib.Core.Bool.{not}
use Rattle.cnf_core.specs.declared.lit.Lit.{Lit}
use Rattle.cnf_core.specs.declared.standing.Standing.TheVariants.{Falsified}
use Rattle.cnf_core.specs.Lit.{variable_of, is_positive, opposite}
use Rattle.cnf_core.specs.Values.{Values, no_values, make_true, make_false, denies, is_false, standing_of}
use Rattle.cnf_core.specs.Accepted.{numbered, Walk, after, hinted, hint, ends_falsified, closes, denied}
use Rattle.sat_core.specs.declared.trail.Mark.{Mark}
use Rattle.sat_core.specs.Trail.{assigned, IsForced, Reason, IsTrail}
use Rattle.sat_core.specs.Rests.{has_variable, Needs, with_clause_of, next_need, Rests, noted_if, rests}
use Rattle.cnf_core.specs.Learned.{Each}
use Rattle.sat_core.proofs.StandingLaws.{give_same, give_other, standing_same, standing_unit, standing_falsified}

pub some_none : {P : Type 0} (b : Bool) → ◌≡◌ {A = Option Bool} (Some b) None → P
some_none b h = absurd cc

or_right : (x y : Bool) → y ≡ true → (x || y) ≡ true
or_right true y h = refl
or_right false y h = h

or_left : (x y : Bool) → x ≡ true → (x || y) ≡ true
or_left x y h = ap (λ (b : Bool). b || y) h

each_with : (c : List Lit) (Q P : Lit → Type 0) → ((k : Lit) → has_variable c (variable_of k) ≡ true → Q k → P k) → Each Q c → Each P c
each_with [] Q P f h = tt
each_with (l ∷ ls) Q P f h = (
  f l (or_left _ _ (eq-eqb (variable_of l) (variable_of l) refl)) h.0,
  each_with ls Q P (λ k in' q. f k (or_right _ _ in') q) h.1,
)

-- what the walk starts from, at each mark
abbrev start_value : Bool → ℕ → Lit → Option Bool
start_value true zero l = Some (is_positive l)
start_value true (suc r) l = None
start_value false r l = None

abbrev Started : List (List Lit) → Values → Needs → List Mark → Type 0
Started cs s need [] = Unit {0}
Started cs s need (m ∷ ms) =
    (s (variable_of m.lit) ≡ start_value (need (variable_of m.lit)) m.reason m.lit) × Started cs s (next_need cs need m) ms

record Walked (cs : List (List Lit)) (s a : Values) (need : Needs) (hints : List ℤ) : Type 0 where
  values : Values
  walk : fold (hint (numbered cs)) (Some (s, false)) hints ≡ Some (values, false)
  needed : (x : ℕ) → need x ≡ true → (a x ≡ None → s x ≡ None) → values x ≡ a x
  others : (x : ℕ) → a x ≡ None → values x ≡ s x

pub numbered_read : (cs : List (List Lit)) (r : ℕ) (c : List Lit) → slice_get cs r ≡ Some c → numbered cs (suc r) ≡ Some c
numbered_read cs r c e =
    let same : suc r - 1 ≡ r = omega arith in
    cond-false (eqb (suc r) 0) None (slice_get cs (suc r - 1)) (ne_eqb (suc r) 0 (λ h. omega arith)) ∙ ap (slice_get cs) same ∙ e

-- one more literal on the trail, under the same values of the walk
module _ (cs : List (List Lit)) (s a : Values) (l : Lit) (fresh : a (variable_of l) ≡ None) where
  not_here : (x : ℕ) → make_true a l x ≡ None → x ≡ variable_of l → ⊥
  not_here x h e = some_none (is_positive l) (sym (give_same a x (variable_of l) (is_positive l) e) ∙ h)

  before : (x : ℕ) → (x ≡ variable_of l → ⊥) → make_true a l x ≡ a x
  before x ne = give_other a x (variable_of l) (is_positive l) ne

  step_unneeded : (need : Needs) (hints : List ℤ) → need (variable_of l) ≡ false → Walked cs s a need hints → Walked cs s (make_true a l) need hints
  step_unneeded need hints off w = record {
    values = w.values;
    walk = w.walk;
    needed = λ x n f. elim (cases_eq x (variable_of l)) [
      | inl e ↦ absurd (false≢true (sym off ∙ ap need (sym e) ∙ n))
      | inr ne ↦ w.needed x n (λ h. f (before x ne ∙ h)) ∙ sym (before x ne)
    ];
    others = λ x h. w.others x (sym (before x (not_here x h)) ∙ h);
  }

  step_decided : (need : Needs) (hints : List ℤ) → s (variable_of l) ≡ Some (is_positive l) → Walked cs s a need hints → Walked cs s (make_true a l) need hints
  step_decided need hints start w = record {
    values = w.values;
    walk = w.walk;
    needed = λ x n f. elim (cases_eq x (variable_of l)) [
      | inl e ↦ w.others x (ap a e ∙ fresh) ∙ ap s e ∙ start ∙ sym (give_same a x (variable_of l) (is_positive l) e)
      | inr ne ↦ w.needed x n (λ h. f (before x ne ∙ h)) ∙ sym (before x ne)
    ];
    others = λ x h. w.others x (sym (before x (not_here x h)) ∙ h);
  }

  false_none : (k : Lit) → a (variable_of k) ≡ None → is_false a k ≡ false
  false_none k h = ap (denies (is_positive k)) h

  step_forced : (need : Needs) (r : ℕ) (hints : List ℤ) → s (variable_of l) ≡ None → IsForced cs a l r → Walked cs s a (with_clause_of cs need (suc r)) hints → Walked cs s (make_true a l) need (hints ++ pos (suc r) ∷ [])
  step_forced need r hints start forced w =
      let c = forced.clause in
      let read : get_or cs r [] ≡ c = get_or_from_slice_get cs r c [] forced.there in
      let unit = (standing_unit a Falsified c l forced.unit).0 in
      let same : Each (λ k. is_false w.values k ≡ is_false a k) c =
      each_with c (λ k. (is_false a k ≡ true) ⊎ (variable_of k ≡ variable_of l)) (λ k. is_false w.values k ≡ is_false a k)
      (λ k in' q. ap (denies (is_positive k))
      (w.needed (variable_of k)
      (or_right (need (variable_of k)) _ (ap (λ (d : List Lit). has_variable d (variable_of k)) read ∙ in'))
      (λ h. elim q [
        | inl t ↦ absurd (false≢true (sym (false_none k h) ∙ t))
        | inr e ↦ ap s e ∙ start
      ])))
      unit in
      record {
        values = make_true w.values l;
        walk =
            fold-append (hint (numbered cs)) (Some (s, false)) hints (pos (suc r) ∷ [])
            ∙ ap (λ (o : Option Walk). hint (numbered cs) o (pos (suc r))) w.walk
            ∙ ap (hinted w.values) (numbered_read cs r c forced.there)
            ∙ ap (after w.values) (standing_same w.values a Falsified c same ∙ forced.unit);
        needed = λ x n f. elim (cases_eq x (variable_of l)) [
          | inl e ↦ give_same w.values x (variable_of l) (is_positive l) e ∙ sym (give_same a x (variable_of l) (is_positive l) e)
          | inr ne ↦
              give_other w.values x (variable_of l) (is_positive l) ne
              ∙ w.needed x (or_left (need x) _ n) (λ h. f (before x ne ∙ h)) ∙ sym (before x ne)
        ];
        others = λ x h.
            give_other w.values x (variable_of l) (is_positive l) (not_here x h) ∙ w.others x (sym (before x (not_here x h)) ∙ h);
      }

  step : (leaves : ℕ) (b : Bool) (r : ℕ) (need : Needs) (rest : Rests) → need (variable_of l) ≡ b → Reason cs leaves a l r → s (variable_of l) ≡ start_value b r l → Walked cs s a (cond b (with_clause_of cs need r) need) rest.hints → Walked cs s (make_true a l) need (noted_if b l r rest).hints
  step leaves true zero need rest e why start w = step_decided need rest.hints start w
  step leaves true (suc r) need rest e why start w = step_forced need r rest.hints start why w
  step leaves false r need rest e why start w = step_unneeded need rest.hints e w

walked : (cs : List (List Lit)) (leaves : ℕ) (s : Values) (need : Needs) (tr : List Mark) → IsTrail cs leaves tr → Started cs s need tr → Walked cs s (assigned tr) need (rests cs need tr).hints
walked cs leaves s need [] ok start = record { values = s; walk = refl; needed = λ x n f. f refl; others = λ x h. refl }
walked cs leaves s need (m ∷ ms) ok start =
    step cs s (assigned ms) m.lit ok.0 leaves (need (variable_of m.lit)) m.reason need (rests cs (next_need cs need m) ms) refl ok.1 start.0
    (walked cs leaves s (next_need cs need m) ms ok.2 start.1)

pub opposite_variable : (z : ℤ) → unsigned_abs (neg_ℤ z) ≡ unsigned_abs z
opposite_variable (pos zero) = refl
opposite_variable (pos (suc n)) = refl
opposite_variable (negsuc n) = refl

pub opposite_sign : (z : ℤ) → 1 ≤ unsigned_abs z → lt_z (pos 0) z ≡ false → not (lt_z (pos 0) (neg_ℤ z)) ≡ lt_z (pos 0) z
opposite_sign (pos zero) above h = absurd (omega arith)
opposite_sign (pos (suc n)) above h = absurd (false≢true (sym h ∙ lt-ltb 0 (suc n) (omega arith)))
opposite_sign (negsuc n) above h = ap not (lt-ltb 0 (suc n) (omega arith))

denied_snoc : (c : List Lit) (l : Lit) → denied (c ++ l ∷ []) ≡ make_false (denied c) l
denied_snoc c l = fold-append make_false no_values c (l ∷ [])

denied_other : (b : Bool) (l : Lit) (r : ℕ) (rest : Rests) (x : ℕ) → (x ≡ variable_of l → ⊥) → denied (noted_if b l r rest).clause x ≡ denied rest.clause x
denied_other true l zero rest x ne =
    ap (λ (a : Values). a x) (denied_snoc rest.clause (opposite l))
    ∙ give_other (denied rest.clause) x (variable_of (opposite l)) _ (λ e. ne (e ∙ opposite_variable l))
denied_other true l (suc r) rest x ne = refl
denied_other false l r rest x ne = refl

denied_here : (b : Bool) (leaves : ℕ) (cs : List (List Lit)) (a : Values) (l : Lit) (r : ℕ) (rest : Rests) → Reason cs leaves a l r → denied rest.clause (variable_of l) ≡ None → denied (noted_if b l r rest).clause (variable_of l) ≡ start_value b r l
denied_here true leaves cs a l zero rest why h =
    ap (λ (v : Values). v (variable_of l)) (denied_snoc rest.clause (opposite l))
    ∙ give_same (denied rest.clause) (variable_of l) (variable_of (opposite l)) _ (sym (opposite_variable l))
    ∙ ap Some (opposite_sign l why.above why.negative)
denied_here true leaves cs a l (suc r) rest why h = h
denied_here false leaves cs a l r rest why h = h

pub none_before : (a : Values) (l : Lit) (x : ℕ) → make_true a l x ≡ None → (x ≡ variable_of l → ⊥) × (a x ≡ None)
none_before a l x h =
    let ne : x ≡ variable_of l → ⊥ = λ e. some_none (is_positive l) (sym (give_same a x (variable_of l) (is_positive l) e) ∙ h) in
    (ne, sym (give_other a x (variable_of l) (is_positive l) ne) ∙ h)

denied_none : (cs : List (List Lit)) (need : Needs) (tr : List Mark) (x : ℕ) → assigned tr x ≡ None → denied (rests cs need tr).clause x ≡ None
denied_none cs need [] x h = refl
denied_none cs need (m ∷ ms) x h =
    let p = none_before (assigned ms) m.lit x h in
    denied_other (need (variable_of m.lit)) m.lit m.reason (rests cs (next_need cs need m) ms) x p.0 ∙ denied_none cs (next_need cs need m) ms x p.1

started : (cs : List (List Lit)) (leaves : ℕ) (s : Values) (need : Needs) (tr : List Mark) → IsTrail cs leaves tr → ((x : ℕ) → (assigned tr x ≡ None → ⊥) → s x ≡ denied (rests cs need tr).clause x) → Started cs s need tr
started cs leaves s need [] ok f = tt
started cs leaves s need (m ∷ ms) ok f =
    let v = variable_of m.lit in
    let rest = rests cs (next_need cs need m) ms in (
      f v (λ h. (none_before (assigned ms) m.lit v h).0 refl)
          ∙ denied_here (need v) leaves cs (assigned ms) m.lit m.reason rest ok.1 (denied_none cs (next_need cs need m) ms v ok.0),
      started cs leaves s (next_need cs need m) ms ok.2 (λ x h.
          f x (λ n. h (none_before (assigned ms) m.lit x n).1)
          ∙ denied_other (need v) m.lit m.reason rest x (λ e. h (ap (assigned ms) e ∙ ok.0))),
    )

-- the clause of the decisions is implied by the reasons, then the falsified clause
pub rests_close : (cs : List (List Lit)) (leaves k : ℕ) (c : List Lit) (tr : List Mark) → IsTrail cs leaves tr → slice_get cs k ≡ Some c → standing_of (assigned tr) c ≡ Falsified → closes (numbered cs) (denied (rests cs (has_variable c) tr).clause) ((rests cs (has_variable c) tr).hints ++ pos (suc k) ∷ []) ≡ true
rests_close cs leaves k c tr ok there falsified =
    let need : Needs = has_variable c in
    let r = rests cs need tr in
    let s = denied r.clause in
    let a = assigned tr in
    let w = walked cs leaves s need tr ok (started cs leaves s need tr ok (λ x h. refl)) in
    let all = (standing_falsified a Falsified c falsified).0 in
    let same : Each (λ i. is_false w.values i ≡ is_false a i) c =
    each_with c (λ i. is_false a i ≡ true) (λ i. is_false w.values i ≡ is_false a i)
    (λ i in' t. ap (denies (is_positive i)) (w.needed (variable_of i) in' (λ h. absurd (false≢true (sym (ap (denies (is_positive i)) h) ∙ t)))))
    all in
    ap ends_falsified
    (fold-append (hint (numbered cs)) (Some (s, false)) r.hints (pos (suc k) ∷ [])
    ∙ ap (λ (o : Option Walk). hint (numbered cs) o (pos (suc k))) w.walk
    ∙ ap (hinted w.values) (numbered_read cs k c there)
    ∙ ap (after w.values) (standing_same w.values a Falsified c same ∙ falsified))
