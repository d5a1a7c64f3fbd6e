-- What a jump back leaves: the trail up to the second greatest decision of the learned clause.
use Rattle.std.proofs.Common.{◌≡◌, ℕ, ◌≤◌, Bool, true, false, cond, eqb, List, [], ◌∷◌, ◌++◌, refl, sym, ap, subst, ◌∙◌, Some, None, inl, inr, ◌⊎◌, ℤ, zero, suc, arith}
use Rattle.std.proofs.lemmas.Bool.{eq-eqb, ne_eqb, cond-true, cond-false}
use Rattle.cnf_core.specs.declared.lit.Lit.{Lit}
use Rattle.cnf_core.specs.Accepted.{numbered, closes, denied}
use Rattle.cnf_core.specs.Closed.{IsClosed}
use Rattle.cnf_core.specs.Learned.{Each}
use Rattle.cnf_core.specs.Lit.{variable_of, opposite}
use Rattle.cnf_core.specs.Values.{Values, no_values, is_false}
use Rattle.sat_core.specs.declared.trail.Mark.{Mark}
use Rattle.sat_core.specs.Trail.{assigned, Reason, IsTrail, before_at, before_decision}
use Rattle.sat_core.specs.Rests.{Needs, next_need, noted_if, rests}
use Rattle.sat_core.specs.Jump.{jumped, LastIs}
use Rattle.sat_core.specs.Watch.{AtCuts, CutAt}
use Rattle.sat_core.proofs.ClosedLaws.{Within, closed_not_refuted}
use Rattle.sat_core.proofs.CutLaws.{cuts_rest}
use Rattle.sat_core.proofs.RestLaws.{opposite_variable, some_none}
use Rattle.sat_core.proofs.LearnedLaws.{IsDecided, clause_decided, decided_false, within_denied, Each-weaker, some_pair, same_clause, trail_before}

-- the newest decision, which the clause holds, and the older ones among its literals
pub record Greatest (cs : List (List Lit)) (leaves : ℕ) (c : List Lit) (d : Lit) (ms : List Mark) : Type 0 where
  pub need : Needs
  pub is : c ≡ (rests cs need ms).clause ++ opposite d ∷ []

record Noted (cs : List (List Lit)) (c : List Lit) (d : Lit) (ms : List Mark) : Type 0 where
  need : Needs
  taken : Bool
  is : c ≡ (noted_if taken d zero (rests cs need ms)).clause

module _ (cs : List (List Lit)) where
  noted_step : (b : Bool) (l : Lit) (r : ℕ) (need : Needs) (xs : List Mark) (d : Lit) (ms : List Mark) → before_at r l xs (before_decision xs) ≡ Some (d, ms) → (before_decision xs ≡ Some (d, ms) → Noted cs (rests cs need xs).clause d ms) → Noted cs (noted_if b l r (rests cs need xs)).clause d ms
  noted_step b l zero need xs d ms e f =
      let p = some_pair l d xs ms e in
      record {
        need = need;
        taken = b;
        is = ap (λ (k : Lit). (noted_if b k zero (rests cs need xs)).clause) p.0 ∙ ap (λ (ys : List Mark). (noted_if b d zero (rests cs need ys)).clause) p.1;
      }
  noted_step b l (suc r) need xs d ms e f =
      let s = f e in
      record { need = s.need; taken = s.taken; is = same_clause b l r (rests cs need xs) ∙ s.is }

  noted : (need : Needs) (tr : List Mark) (d : Lit) (ms : List Mark) → before_decision tr ≡ Some (d, ms) → Noted cs (rests cs need tr).clause d ms
  noted need [] d ms e = absurd cc
  noted need (m ∷ xs) d ms e = noted_step (need (variable_of m.lit)) m.lit m.reason (next_need cs need m) xs d ms e (noted (next_need cs need m) xs d ms)

  greatest_by : (leaves : ℕ) (taken : Bool) (need : Needs) (d : Lit) (ms : List Mark) (c : List Lit) (hs : List ℤ) → c ≡ (noted_if taken d zero (rests cs need ms)).clause → IsTrail cs leaves ms → IsClosed (assigned ms) cs → closes (numbered cs) (denied c) hs ≡ true → Greatest cs leaves c d ms
  greatest_by leaves true need d ms c hs e ok closed t = record { need = need; is = e }
  greatest_by leaves false need d ms c hs e ok closed t =
      let all : Each (λ l. is_false (assigned ms) l ≡ true) (rests cs need ms).clause =
      Each-weaker (IsDecided leaves (assigned ms)) (λ l. is_false (assigned ms) l ≡ true) (decided_false leaves (assigned ms)) (rests cs need ms).clause (clause_decided cs leaves need ms ok) in
      let w : Within (denied c) (assigned ms) =
      subst (λ (x : List Lit). Within (denied x) (assigned ms)) (sym e) (within_denied no_values (assigned ms) (rests cs need ms).clause all (record { at = λ x v h. absurd cc })) in
      absurd (closed_not_refuted (assigned ms) (denied c) cs hs closed w t)

  pub greatest : (leaves : ℕ) (need : Needs) (tr : List Mark) (d : Lit) (ms : List Mark) (c : List Lit) (hs : List ℤ) → c ≡ (rests cs need tr).clause → IsTrail cs leaves tr → before_decision tr ≡ Some (d, ms) → IsClosed (assigned ms) cs → closes (numbered cs) (denied c) hs ≡ true → Greatest cs leaves c d ms
  greatest leaves need tr d ms c hs is ok e closed t =
      let s = noted need tr d ms e in
      greatest_by leaves s.taken s.need d ms c hs (is ∙ s.is) (trail_before cs leaves tr d ms ok e).2 closed t

-- the newest decision is of this variable
abbrev pub DecisionIs : List Lit → ℕ → List Mark → Type 0
DecisionIs front x tr = ((front ≡ []) × (x ≡ 0) × (before_decision tr ≡ None)) ⊎ ((d : Lit) × (ms : List Mark) × (before_decision tr ≡ Some (d, ms)) × (x ≡ variable_of d))

-- the trail after the jump: front's literals are decided there, and the last of them is the newest decision
pub record Back (leaves : ℕ) (front : List Lit) (x : ℕ) (tr : List Mark) : Type 0 where
  pub decided : Each (IsDecided leaves (assigned tr)) front
  pub decision : DecisionIs front x tr

pub each_last : (P : Lit → Type 0) (older : List Lit) (k : Lit) → Each P (older ++ k ∷ []) → P k
each_last P [] k h = h.0
each_last P (l ∷ ls) k h = each_last P ls k h.1

pub last_same : (xs ys : List Lit) (k l : Lit) → xs ++ k ∷ [] ≡ ys ++ l ∷ [] → k ≡ l
last_same [] [] k l e = cc
last_same [] (y ∷ []) k l e = absurd cc
last_same [] (y ∷ (z ∷ zs)) k l e = absurd cc
last_same (x ∷ []) [] k l e = absurd cc
last_same (x ∷ (z ∷ zs)) [] k l e = absurd cc
last_same (x ∷ xs) (y ∷ ys) k l e = let t : xs ++ k ∷ [] ≡ ys ++ l ∷ [] = cc in last_same xs ys k l t

pub no_last : (xs : List Lit) (k : Lit) → xs ++ k ∷ [] ≡ [] → ⊥
no_last [] k e = absurd cc
no_last (x ∷ xs) k e = absurd cc

-- a variable with no value is not that of the last literal
pub other_last : (leaves : ℕ) (a : Values) (front : List Lit) (x y : ℕ) → Each (IsDecided leaves a) front → LastIs front x → 1 ≤ y → a y ≡ None → y ≡ x → ⊥
other_last leaves a front x y all (inl p) above none e = let z = p.1 in omega arith
other_last leaves a front x y all (inr p) above none e =
    let d : IsDecided leaves a p.0 = each_last (IsDecided leaves a) p.1 p.0 (subst (Each (IsDecided leaves a)) p.2 all) in
    some_none false (sym d.off ∙ ap a (sym (e ∙ p.3)) ∙ none)

last_is : (front older : List Lit) (x : ℕ) (l : Lit) → front ≡ older ++ l ∷ [] → LastIs front x → x ≡ variable_of l
last_is front older x l e (inl p) = absurd (no_last older l (sym e ∙ p.0))
last_is front older x l e (inr p) = p.3 ∙ ap variable_of (last_same p.1 older p.0 l (sym p.2 ∙ e))

module _ (cs : List (List Lit)) (leaves : ℕ) (front : List Lit) (x : ℕ) (last : LastIs front x) where
  Goal : List Mark → Type 0
  Goal tr = Back leaves front x tr

  back_none : (best : List Mark) → front ≡ [] → before_decision best ≡ None → Back leaves front x best
  back_none best e d = record {
    decided = subst (Each (IsDecided leaves (assigned best))) (sym e) tt;
    decision = elim last [
      | inl p ↦ inl (p.0, p.1, d)
      | inr p ↦ absurd (no_last p.1 p.0 (sym p.2 ∙ e))
    ];
  }

  -- a decision of the clause: the jump goes here
  back_found : (l : Lit) (ms best : List Mark) (rest : List Lit) → front ≡ rest ++ opposite l ∷ [] → before_decision best ≡ Some (l, ms) → Each (IsDecided leaves (assigned best)) front → Back leaves front x (cond (eqb (variable_of l) x) best (jumped x ms ms))
  back_found l ms best rest e d all =
      let s : x ≡ variable_of (opposite l) = last_is front rest x (opposite l) e last in
      let v : variable_of l ≡ x = sym (s ∙ opposite_variable l) in
      subst (Back leaves front x) (sym (cond-true (eqb (variable_of l) x) best (jumped x ms ms) (eq-eqb (variable_of l) x v)))
      (record { decided = all; decision = inr (l, ms, d, sym v) })

  back_step : (b : Bool) (l : Lit) (r : ℕ) (need : Needs) (ms best : List Mark) → assigned ms (variable_of l) ≡ None → Reason cs leaves (assigned ms) l r → IsTrail cs leaves ms → front ≡ (noted_if b l r (rests cs need ms)).clause → before_decision best ≡ before_at r l ms (before_decision ms) → Each (IsDecided leaves (assigned best)) front → ((best' : List Mark) → front ≡ (rests cs need ms).clause → before_decision best' ≡ before_decision ms → Each (IsDecided leaves (assigned best')) front → Back leaves front x (jumped x ms best')) → Back leaves front x (cond (eqb r 0) (cond (eqb (variable_of l) x) best (jumped x ms ms)) (jumped x ms best))
  back_step true l zero need ms best fresh why ok e d all rec =
      subst (Back leaves front x) (sym (cond-true (eqb zero 0) (cond (eqb (variable_of l) x) best (jumped x ms ms)) (jumped x ms best) (eq-eqb zero 0 refl))) (back_found l ms best (rests cs need ms).clause e d all)
  back_step false l zero need ms best fresh why ok e d all rec =
      let here : Each (IsDecided leaves (assigned ms)) front = subst (Each (IsDecided leaves (assigned ms))) (sym e) (clause_decided cs leaves need ms ok) in
      let ne : variable_of l ≡ x → ⊥ = other_last leaves (assigned ms) front x (variable_of l) here last why.above fresh in
      subst (Back leaves front x)
      (sym (cond-true (eqb zero 0) (cond (eqb (variable_of l) x) best (jumped x ms ms)) (jumped x ms best) (eq-eqb zero 0 refl) ∙ cond-false (eqb (variable_of l) x) best (jumped x ms ms) (ne_eqb (variable_of l) x ne)))
      (rec ms e refl here)
  back_step b l (suc r) need ms best fresh why ok e d all rec =
      subst (Back leaves front x) (sym (cond-false (eqb (suc r) 0) (cond (eqb (variable_of l) x) best (jumped x ms ms)) (jumped x ms best) (ne_eqb (suc r) 0 (λ h. omega arith))))
      (rec best (e ∙ same_clause b l r (rests cs need ms)) d all)

  pub back : (need : Needs) (tr best : List Mark) → IsTrail cs leaves tr → front ≡ (rests cs need tr).clause → before_decision best ≡ before_decision tr → Each (IsDecided leaves (assigned best)) front → Back leaves front x (jumped x tr best)
  back need [] best ok e d all = back_none best e d
  back need (m ∷ ms) best ok e d all =
      back_step (need (variable_of m.lit)) m.lit m.reason (next_need cs need m) ms best ok.0 ok.1 ok.2 e d all
      (λ best' e' d' all'. back (next_need cs need m) ms best' ok.2 e' d' all')

top_step : (x : ℕ) (l : Lit) (r : ℕ) (xs best : List Mark) (d : Lit) (ms : List Mark) → before_at r l xs (before_decision xs) ≡ Some (d, ms) → (variable_of d ≡ x → ⊥) → (before_decision xs ≡ Some (d, ms) → jumped x xs best ≡ jumped x ms ms) → cond (eqb r 0) (cond (eqb (variable_of l) x) best (jumped x xs xs)) (jumped x xs best) ≡ jumped x ms ms
top_step x l zero xs best d ms e ne rec =
    let p = some_pair l d xs ms e in
    cond-true (eqb zero 0) (cond (eqb (variable_of l) x) best (jumped x xs xs)) (jumped x xs best) (eq-eqb zero 0 refl)
    ∙ cond-false (eqb (variable_of l) x) best (jumped x xs xs) (ne_eqb (variable_of l) x (λ h. ne (ap variable_of (sym p.0) ∙ h)))
    ∙ ap (λ (ys : List Mark). jumped x ys ys) p.1
top_step x l (suc r) xs best d ms e ne rec =
    cond-false (eqb (suc r) 0) (cond (eqb (variable_of l) x) best (jumped x xs xs)) (jumped x xs best) (ne_eqb (suc r) 0 (λ h. omega arith)) ∙ rec e

-- the newest decision is passed
pub jump_top : (x : ℕ) (tr best : List Mark) (d : Lit) (ms : List Mark) → before_decision tr ≡ Some (d, ms) → (variable_of d ≡ x → ⊥) → jumped x tr best ≡ jumped x ms ms
jump_top x [] best d ms e ne = absurd cc
jump_top x (m ∷ xs) best d ms e ne = top_step x m.lit m.reason xs best d ms e ne (λ h. jump_top x xs best d ms h ne)

cond_has : (I : List Mark → Type 0) (b : Bool) (xs ys : List Mark) → I xs → I ys → I (cond b xs ys)
cond_has I true xs ys h g = h
cond_has I false xs ys h g = g

-- what older parts of a trail inherit
pub jumped_has : (I : List Mark → Type 0) → ((m : Mark) (ms : List Mark) → I (m ∷ ms) → I ms) → (x : ℕ) (tr best : List Mark) → I tr → I best → I (jumped x tr best)
jumped_has I f x [] best h g = g
jumped_has I f x (m ∷ ms) best h g =
    cond_has I (eqb m.reason 0) (cond (eqb (variable_of m.lit) x) best (jumped x ms ms)) (jumped x ms best)
    (cond_has I (eqb (variable_of m.lit) x) best (jumped x ms ms) g (jumped_has I f x ms ms (f m ms h) (f m ms h)))
    (jumped_has I f x ms best (f m ms h) g)

cut_step : (P : Values → Type 0) (x : ℕ) (r v : ℕ) (ms best : List Mark) → CutAt P r (assigned ms) (AtCuts P ms) → P (assigned best) → ((best' : List Mark) → P (assigned best') → P (assigned (jumped x ms best'))) → P (assigned (cond (eqb r 0) (cond (eqb v x) best (jumped x ms ms)) (jumped x ms best)))
cut_step P x zero v ms best h g rec =
    subst (λ (tr : List Mark). P (assigned tr)) (sym (cond-true (eqb zero 0) (cond (eqb v x) best (jumped x ms ms)) (jumped x ms best) (eq-eqb zero 0 refl)))
    (cond_has (λ tr. P (assigned tr)) (eqb v x) best (jumped x ms ms) g (rec ms h.0))
cut_step P x (suc r) v ms best h g rec =
    subst (λ (tr : List Mark). P (assigned tr)) (sym (cond-false (eqb (suc r) 0) (cond (eqb v x) best (jumped x ms ms)) (jumped x ms best) (ne_eqb (suc r) 0 (λ e. omega arith)))) (rec best g)

-- a jump goes to a cut
pub jumped_cut : (P : Values → Type 0) (x : ℕ) (tr best : List Mark) → AtCuts P tr → P (assigned best) → P (assigned (jumped x tr best))
jumped_cut P x [] best h g = g
jumped_cut P x (m ∷ ms) best h g =
    cut_step P x m.reason (variable_of m.lit) ms best h g (λ best' g'. jumped_cut P x ms best' (cuts_rest P m ms h) g')

before_step : (P : Values → Type 0) (l : Lit) (r : ℕ) (xs : List Mark) (d : Lit) (ms : List Mark) → before_at r l xs (before_decision xs) ≡ Some (d, ms) → CutAt P r (assigned xs) (AtCuts P xs) → (before_decision xs ≡ Some (d, ms) → AtCuts P xs → P (assigned ms) × AtCuts P ms) → P (assigned ms) × AtCuts P ms
before_step P l zero xs d ms e h rec = subst (λ (ys : List Mark). P (assigned ys) × AtCuts P ys) (some_pair l d xs ms e).1 h
before_step P l (suc r) xs d ms e h rec = rec e h

-- the cut before the newest decision
pub cuts_before : (P : Values → Type 0) (tr : List Mark) (d : Lit) (ms : List Mark) → before_decision tr ≡ Some (d, ms) → AtCuts P tr → P (assigned ms) × AtCuts P ms
cuts_before P [] d ms e h = absurd cc
cuts_before P (m ∷ xs) d ms e h = before_step P m.lit m.reason xs d ms e h (cuts_before P xs d ms)
