-- What a learned clause is: its decisions, the closed values before the newest one.
use Rattle.std.proofs.Common.{◌≡◌, ℕ, ◌≤◌, ◌<◌, Bool, true, false, cond, eqb, List, [], ◌∷◌, ◌++◌, refl, sym, ap, subst, ◌∙◌, Option, Some, None, inl, inr, ◌⊎◌, ℤ, zero, suc, arith, get_or, length}
use Rattle.std.specs.List.{fold}
use Rattle.std.proofs.lemmas.Bool.{cases_eq, false≢true, cond-true, eqb-true, cases_lt, and_from, eq-eqb}
use Rattle.std.proofs.lemmas.Option.{some_pair_parts}
use mathlib.Core.Bool.{beq, not}
use Rattle.cnf_core.specs.declared.lit.Lit.{Lit}
use Rattle.cnf_core.specs.declared.standing.Standing.{Standing}
use Rattle.cnf_core.specs.declared.standing.Standing.TheVariants.{Falsified, Unit as UnitAt, Neither}
use Rattle.cnf_core.specs.Lit.{variable_of, is_positive, opposite}
use Rattle.cnf_core.specs.Values.{Values, no_values, make_true, make_false, denies, grants, is_false, same_lit, joined, meet, standing_of}
use Rattle.cnf_core.specs.Accepted.{numbered, closes, denied}
use Rattle.sat_core.specs.declared.trail.Mark.{Mark}
use Rattle.cnf_core.specs.Closed.{IsClosed, is_quiet}
use Rattle.sat_core.specs.Trail.{assigned, IsDecision, Reason, IsTrail, before_at, before_decision}
use Rattle.sat_core.specs.Rests.{Needs, next_need, Rests, noted_if, rests}
use Rattle.cnf_core.specs.Learned.{Each, Among, IsLeafLit, HasClosed, Holds, HoldsNone}
use Rattle.sat_core.proofs.StandingLaws.{give_same, give_other}
use Rattle.sat_core.proofs.ClosedLaws.{Within, closed_not_refuted}
use Rattle.sat_core.proofs.RestLaws.{none_before, opposite_variable, opposite_sign, some_none}

pub Each-snoc : (P : Lit → Type 0) (c : List Lit) (l : Lit) → Each P c → P l → Each P (c ++ l ∷ [])
Each-snoc P [] l h p = (p, tt)
Each-snoc P (k ∷ ks) l h p = (h.0, Each-snoc P ks l h.1 p)

pub Each-weaker : (P Q : Lit → Type 0) → ((l : Lit) → P l → Q l) → (c : List Lit) → Each P c → Each Q c
Each-weaker P Q f [] h = tt
Each-weaker P Q f (l ∷ ls) h = (f l h.0, Each-weaker P Q f ls h.1)

-- a positive literal of a leaf that a decision made false, all lower leaves having values
pub record IsDecided (leaves : ℕ) (a : Values) (l : Lit) : Type 0 where
  pub positive : is_positive l ≡ true
  pub above : 1 ≤ variable_of l
  pub leaf : variable_of l ≤ leaves
  pub off : a (variable_of l) ≡ Some false
  pub least : (y : ℕ) → 1 ≤ y → y < variable_of l → a y ≡ None → ⊥

kept_value : (a : Values) (l : Lit) (x : ℕ) (b : Bool) → a (variable_of l) ≡ None → a x ≡ Some b → make_true a l x ≡ Some b
kept_value a l x b fresh h = give_other a x (variable_of l) (is_positive l) (λ e. some_none b (sym h ∙ ap a e ∙ fresh)) ∙ h

decided_more : (leaves : ℕ) (a : Values) (m l : Lit) → a (variable_of m) ≡ None → IsDecided leaves a l → IsDecided leaves (make_true a m) l
decided_more leaves a m l fresh d = record {
  positive = d.positive;
  above = d.above;
  leaf = d.leaf;
  off = kept_value a m (variable_of l) false fresh d.off;
  least = λ y p q h. d.least y p q (none_before a m y h).1;
}

not_back : (b : Bool) → not b ≡ false → b ≡ true
not_back true h = refl
not_back false h = absurd (false≢true (sym h))

decided_here : (leaves : ℕ) (a : Values) (m : Lit) → IsDecision leaves a m → IsDecided leaves (make_true a m) (opposite m)
decided_here leaves a m d =
    let v = opposite_variable m in
    record {
      positive = not_back (is_positive (opposite m)) (opposite_sign m d.above d.negative ∙ d.negative);
      above = omega (arith, v, d.above);
      leaf = omega (arith, v, d.leaf);
      off = give_same a (variable_of (opposite m)) (variable_of m) (is_positive m) v ∙ ap Some d.negative;
      least = λ y p q h. d.least y p (omega (arith, v)) (none_before a m y h).1;
    }

decided_step : (leaves : ℕ) (cs : List (List Lit)) (a : Values) (b : Bool) (m : Lit) (r : ℕ) (rest : Rests) → a (variable_of m) ≡ None → Reason cs leaves a m r → Each (IsDecided leaves a) rest.clause → Each (IsDecided leaves (make_true a m)) (noted_if b m r rest).clause
decided_step leaves cs a true m zero rest fresh why h =
    Each-snoc (IsDecided leaves (make_true a m)) rest.clause (opposite m)
    (Each-weaker (IsDecided leaves a) (IsDecided leaves (make_true a m)) (λ l. decided_more leaves a m l fresh) rest.clause h) (decided_here leaves a m why)
decided_step leaves cs a true m (suc r) rest fresh why h = Each-weaker (IsDecided leaves a) (IsDecided leaves (make_true a m)) (λ l. decided_more leaves a m l fresh) rest.clause h
decided_step leaves cs a false m r rest fresh why h = Each-weaker (IsDecided leaves a) (IsDecided leaves (make_true a m)) (λ l. decided_more leaves a m l fresh) rest.clause h

pub clause_decided : (cs : List (List Lit)) (leaves : ℕ) (need : Needs) (tr : List Mark) → IsTrail cs leaves tr → Each (IsDecided leaves (assigned tr)) (rests cs need tr).clause
clause_decided cs leaves need [] ok = tt
clause_decided cs leaves need (m ∷ ms) ok =
    decided_step leaves cs (assigned ms) (need (variable_of m.lit)) m.lit m.reason (rests cs (next_need cs need m) ms) ok.0 ok.1 (clause_decided cs leaves (next_need cs need m) ms ok.2)

denies_given : (p : Bool) (o : Option Bool) → denies p o ≡ true → o ≡ Some (not p)
denies_given p None h = absurd (false≢true h)
denies_given true (Some true) h = absurd (false≢true h)
denies_given true (Some false) h = refl
denies_given false (Some true) h = refl
denies_given false (Some false) h = absurd (false≢true h)

given_within : (e : Bool) (b v : Bool) (o q : Option Bool) → (e ≡ true → q ≡ Some b) → (o ≡ Some v → q ≡ Some v) → cond e (Some b) o ≡ Some v → q ≡ Some v
given_within true b v o q here rest is = here refl ∙ is
given_within false b v o q here rest is = rest is

pub within_denied : (s a : Values) (c : List Lit) → Each (λ l. is_false a l ≡ true) c → Within s a → Within (fold make_false s c) a
within_denied s a [] h w = w
within_denied s a (l ∷ ls) h w =
    within_denied (make_false s l) a ls h.1 (record {
      at = λ x v is.
          given_within (eqb x (variable_of l)) (not (is_positive l)) v (s x) (a x)
          (λ e. ap a (eqb-true _ _ e) ∙ denies_given (is_positive l) (a (variable_of l)) h.0) (w.at x v) is;
    })

pub decided_false : (leaves : ℕ) (a : Values) (l : Lit) → IsDecided leaves a l → is_false a l ≡ true
decided_false leaves a l d = ap (denies (is_positive l)) d.off ∙ ap (λ (p : Bool). not (beq false p)) d.positive

-- the decisions before the newest one, and that one
pub record Split (cs : List (List Lit)) (leaves : ℕ) (c : List Lit) (d : Lit) (ms : List Mark) : Type 0 where
  pub front : List Lit
  pub is : c ≡ front ++ opposite d ∷ []
  pub decided : Each (IsDecided leaves (assigned ms)) front

record Shape (cs : List (List Lit)) (c : List Lit) (d : Lit) (ms : List Mark) : Type 0 where
  need : Needs
  taken : Bool
  is : c ≡ (noted_if taken d zero (rests cs need ms)).clause

pub some_pair : (l d : Lit) (xs ys : List Mark) → ◌≡◌ {A = Option (Lit × List Mark)} (Some (l, xs)) (Some (d, ys)) → (l ≡ d) × (xs ≡ ys)
some_pair l d xs ys e = some_pair_parts l d xs ys e

pub same_clause : (b : Bool) (l : Lit) (r : ℕ) (rest : Rests) → (noted_if b l (suc r) rest).clause ≡ rest.clause
same_clause true l r rest = refl
same_clause false l r rest = refl

snoc_not_nil : (c : List Lit) (l : Lit) → c ++ l ∷ [] ≡ [] → ⊥
snoc_not_nil [] l e = cc
snoc_not_nil (k ∷ ks) l e = cc

pub among_last : (c : List Lit) (l : Lit) → Among l (c ++ l ∷ [])
among_last [] l = inl refl
among_last (k ∷ ks) l = inr (among_last ks l)

pub each_among : (P : Lit → Type 0) (c : List Lit) (l : Lit) → Each P c → Among l c → P l
each_among P [] l h m = absurd m
each_among P (k ∷ ks) l h (inl e) = subst P (sym e) h.0
each_among P (k ∷ ks) l h (inr m) = each_among P ks l h.1 m

pub among_at : (c : List Lit) (i : ℕ) (l : Lit) → i < length c → l ≡ get_or c i l → Among l c
among_at [] i l h e = absurd (omega arith)
among_at (k ∷ ks) zero l h e = inl e
among_at (k ∷ ks) (suc i) l h e = inr (among_at ks i l (omega arith) e)

-- under the closed values of c, a clause within c is falsified, or unit at the greatest literal
abbrev pub Stands : Lit → Standing → Type 0
Stands g s = (s ≡ Falsified) ⊎ (s ≡ UnitAt g)

beq_same : (b : Bool) → beq b b ≡ true
beq_same true = refl
beq_same false = refl

same_lit_self : (g : Lit) → same_lit g g ≡ true
same_lit_self g = and_from (eqb (variable_of g) (variable_of g)) (beq (is_positive g) (is_positive g)) (eq-eqb (variable_of g) (variable_of g) refl) (beq_same (is_positive g))

stands_joined : (g l : Lit) (s : Standing) → l ≡ g → Stands g s → joined s l ≡ UnitAt g
stands_joined g l s e (inl h) = ap (λ (t : Standing). joined t l) h ∙ ap UnitAt e
stands_joined g l s e (inr h) = ap (λ (t : Standing). joined t l) h ∙ ap (joined (UnitAt g)) e ∙ cond-true (same_lit g g) (UnitAt g) Neither (same_lit_self g)

stands_meet : (a : Values) (g l : Lit) (s : Standing) (b : Bool) → is_false a l ≡ b → (l ≡ g) ⊎ (is_false a l ≡ true) → Stands g s → Stands g (cond b s (joined s l))
stands_meet a g l s true e h st = st
stands_meet a g l s false e (inl h) st = inr (stands_joined g l s h st)
stands_meet a g l s false e (inr h) st = absurd (false≢true (sym e ∙ h))

pub stands_fold : (a : Values) (g : Lit) (s : Standing) (c : List Lit) → Each (λ l. (l ≡ g) ⊎ (is_false a l ≡ true)) c → Stands g s → Stands g (fold (meet a) s c)
stands_fold a g s [] h st = st
stands_fold a g s (l ∷ ls) h st = stands_fold a g (meet a s l) ls h.1 (stands_meet a g l s (is_false a l) refl h.0 st)

held_stands : (clauses : List (List Lit)) (c d : List Lit) (h : HasClosed clauses c) → Holds c d → Stands h.greatest (standing_of h.values d)
held_stands clauses c d h all =
    stands_fold h.values h.greatest Falsified d
    (Each-weaker (λ l. Among l c) (λ l. (l ≡ h.greatest) ⊎ (is_false h.values l ≡ true))
    (λ l m. elim (each_among (λ k. (k ≡ h.greatest) ⊎ ((variable_of k < variable_of h.greatest) × (is_false h.values k ≡ true))) c l h.rest m) [ inl e ↦ inl e | inr p ↦ inr p.1 ])
    d all)
    (inl refl)

not_quiet : (a : Values) (g : Lit) (d : List Lit) → a (variable_of g) ≡ None → Stands g (standing_of a d) → is_quiet a (standing_of a d) ≡ true → ⊥
not_quiet a g d none (inl h) q = false≢true (sym (ap (is_quiet a) h) ∙ q)
not_quiet a g d none (inr h) q = false≢true (sym (ap (is_quiet a) h ∙ ap (grants (is_positive g)) none) ∙ q)

module _ (cs : List (List Lit)) where
  no_decision_step : (b : Bool) (l : Lit) (r : ℕ) (need : Needs) (xs : List Mark) → before_at r l xs (before_decision xs) ≡ None → (before_decision xs ≡ None → (rests cs need xs).clause ≡ []) → (noted_if b l r (rests cs need xs)).clause ≡ []
  no_decision_step b l zero need xs e f = absurd cc
  no_decision_step b l (suc r) need xs e f = same_clause b l r (rests cs need xs) ∙ f e

  trail_step : (leaves : ℕ) (l : Lit) (r : ℕ) (xs : List Mark) (d : Lit) (ms : List Mark) → assigned xs (variable_of l) ≡ None → Reason cs leaves (assigned xs) l r → IsTrail cs leaves xs → before_at r l xs (before_decision xs) ≡ Some (d, ms) → (before_decision xs ≡ Some (d, ms) → (assigned ms (variable_of d) ≡ None) × IsDecision leaves (assigned ms) d × IsTrail cs leaves ms) → (assigned ms (variable_of d) ≡ None) × IsDecision leaves (assigned ms) d × IsTrail cs leaves ms
  trail_step leaves l zero xs d ms fresh why ok e f =
      let p = some_pair l d xs ms e in
      let Goal : Lit → List Mark → Type 0 = λ k ys. (assigned ys (variable_of k) ≡ None) × IsDecision leaves (assigned ys) k × IsTrail cs leaves ys in
      subst (λ (ys : List Mark). Goal d ys) p.1 (subst (λ (k : Lit). Goal k xs) p.0 (fresh, why, ok))
  trail_step leaves l (suc r) xs d ms fresh why ok e f = f e

  split_by : (leaves : ℕ) (taken : Bool) (need : Needs) (d : Lit) (ms : List Mark) (c : List Lit) (hs : List ℤ) → c ≡ (noted_if taken d zero (rests cs need ms)).clause → IsTrail cs leaves ms → IsClosed (assigned ms) cs → closes (numbered cs) (denied c) hs ≡ true → Split cs leaves c d ms
  split_by leaves true need d ms c hs e ok closed t = record { front = (rests cs need ms).clause; is = e; decided = clause_decided cs leaves need ms ok }
  split_by leaves false need d ms c hs e ok closed t =
      let all : Each (λ l. is_false (assigned ms) l ≡ true) (rests cs need ms).clause =
      Each-weaker (IsDecided leaves (assigned ms)) (λ l. is_false (assigned ms) l ≡ true) (decided_false leaves (assigned ms)) (rests cs need ms).clause (clause_decided cs leaves need ms ok) in
      let w : Within (denied c) (assigned ms) =
      subst (λ (x : List Lit). Within (denied x) (assigned ms)) (sym e) (within_denied no_values (assigned ms) (rests cs need ms).clause all (record { at = λ x v h. absurd cc })) in
      absurd (closed_not_refuted (assigned ms) (denied c) cs hs closed w t)

  shape_step : (b : Bool) (l : Lit) (r : ℕ) (need : Needs) (xs : List Mark) (d : Lit) (ms : List Mark) → before_at r l xs (before_decision xs) ≡ Some (d, ms) → (before_decision xs ≡ Some (d, ms) → Shape cs (rests cs need xs).clause d ms) → Shape cs (noted_if b l r (rests cs need xs)).clause d ms
  shape_step b l zero need xs d ms e f =
      let p = some_pair l d xs ms e in
      record {
        need = need;
        taken = b;
        is = ap (λ (k : Lit). (noted_if b k zero (rests cs need xs)).clause) p.0 ∙ ap (λ (ys : List Mark). (noted_if b d zero (rests cs need ys)).clause) p.1;
      }
  shape_step b l (suc r) need xs d ms e f =
      let s = f e in
      record { need = s.need; taken = s.taken; is = same_clause b l r (rests cs need xs) ∙ s.is }

  shape : (need : Needs) (tr : List Mark) (d : Lit) (ms : List Mark) → before_decision tr ≡ Some (d, ms) → Shape cs (rests cs need tr).clause d ms
  shape need [] d ms e = absurd cc
  shape need (m ∷ xs) d ms e =
      shape_step (need (variable_of m.lit)) m.lit m.reason (next_need cs need m) xs d ms e (shape (next_need cs need m) xs d ms)

  pub no_decision : (need : Needs) (tr : List Mark) → before_decision tr ≡ None → (rests cs need tr).clause ≡ []
  no_decision need [] e = refl
  no_decision need (m ∷ xs) e = no_decision_step (need (variable_of m.lit)) m.lit m.reason (next_need cs need m) xs e (no_decision (next_need cs need m) xs)

  pub trail_before : (leaves : ℕ) (tr : List Mark) (d : Lit) (ms : List Mark) → IsTrail cs leaves tr → before_decision tr ≡ Some (d, ms) → (assigned ms (variable_of d) ≡ None) × IsDecision leaves (assigned ms) d × IsTrail cs leaves ms
  trail_before leaves [] d ms ok e = absurd cc
  trail_before leaves (m ∷ xs) d ms ok e = trail_step leaves m.lit m.reason xs d ms ok.0 ok.1 ok.2 e (trail_before leaves xs d ms ok.2)

  pub split : (leaves : ℕ) (need : Needs) (tr : List Mark) (d : Lit) (ms : List Mark) (hs : List ℤ) → IsTrail cs leaves tr → before_decision tr ≡ Some (d, ms) → IsClosed (assigned ms) cs → closes (numbered cs) (denied (rests cs need tr).clause) hs ≡ true → Split cs leaves (rests cs need tr).clause d ms
  split leaves need tr d ms hs ok e closed t =
      let s = shape need tr d ms e in
      split_by leaves s.taken s.need d ms _ hs s.is (trail_before leaves tr d ms ok e).2 closed t

-- the newest decision's literal is the greatest, and what the closed values before it leave open
module _ (cs : List (List Lit)) (leaves : ℕ) (c : List Lit) (d : Lit) (ms : List Mark) (s : Split cs leaves c d ms) (open_d : assigned ms (variable_of d) ≡ None) (dec : IsDecision leaves (assigned ms) d) where
  lower : (l : Lit) → IsDecided leaves (assigned ms) l → variable_of l < variable_of (opposite d)
  lower l h =
      elim (cases_lt (variable_of l) (variable_of (opposite d))) [
        | inl lt ↦ lt
        | inr ge ↦ elim (cases_eq (variable_of l) (variable_of d)) [
          | inl e ↦ absurd (some_none false (sym h.off ∙ ap (assigned ms) e ∙ open_d))
          | inr ne ↦ absurd (h.least (variable_of d) dec.above (omega (arith, opposite_variable d)) open_d)
        ]
      ]

  leaf_of : (l : Lit) → IsDecided leaves (assigned ms) l → IsLeafLit leaves l
  leaf_of l h = record { positive = h.positive; above = h.above; leaf = h.leaf }

  last_leaf : IsLeafLit leaves (opposite d)
  last_leaf = record {
    positive = not_back (is_positive (opposite d)) (opposite_sign d dec.above dec.negative ∙ dec.negative);
    above = omega (arith, opposite_variable d, dec.above);
    leaf = omega (arith, opposite_variable d, dec.leaf);
  }

  pub leaves_of : Each (IsLeafLit leaves) c
  leaves_of = subst (Each (IsLeafLit leaves)) (sym s.is)
      (Each-snoc (IsLeafLit leaves) s.front (opposite d) (Each-weaker (IsDecided leaves (assigned ms)) (IsLeafLit leaves) leaf_of s.front s.decided) last_leaf)

  pub not_empty : c ≡ [] → ⊥
  not_empty e = snoc_not_nil s.front (opposite d) (sym s.is ∙ e)

  pub has_closed : IsClosed (assigned ms) cs → HasClosed cs c
  has_closed closed =
      let P : Lit → Type 0 = λ l. (l ≡ opposite d) ⊎ ((variable_of l < variable_of (opposite d)) × (is_false (assigned ms) l ≡ true)) in
      record {
        values = assigned ms;
        closed = closed;
        greatest = opposite d;
        there = subst (Among (opposite d)) (sym s.is) (among_last s.front (opposite d));
        open_there = ap (assigned ms) (opposite_variable d) ∙ open_d;
        rest = subst (Each P) (sym s.is) (Each-snoc P s.front (opposite d)
            (Each-weaker (IsDecided leaves (assigned ms)) P (λ l h. inr (lower l h, decided_false leaves (assigned ms) l h)) s.front s.decided)
            (inl refl));
      }

-- a clause with closed values contains none of the clauses that they are closed for
pub holds_none : (clauses ds : List (List Lit)) (c : List Lit) (h : HasClosed clauses c) → IsClosed h.values ds → HoldsNone c ds
holds_none clauses [] c h closed = tt
holds_none clauses (d ∷ ds) c h closed =
    (λ all. not_quiet h.values h.greatest d h.open_there (held_stands clauses c d h all) closed.0, holds_none clauses ds c h closed.1)
