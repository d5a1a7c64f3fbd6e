-- The values before each decision of a trail.
use Rattle.std.proofs.Common.{◌≡◌, ℕ, Bool, true, List, [], ◌∷◌, ◌++◌, refl, sym, ap, subst, ◌∙◌, Option, Some, None, take, drop, reverse, zero, suc}
use Rattle.std.proofs.lemmas.Bool.{false≢true}
use Rattle.std.proofs.lemmas.List.{reverse-append, take-append-drop}
use Rattle.cnf_core.specs.declared.lit.Lit.{Lit}
use Rattle.cnf_core.specs.Lit.{variable_of, is_positive}
use Rattle.cnf_core.specs.Values.{Values, make_true, denies, grants, is_false, is_true}
use Rattle.sat_core.specs.declared.trail.Mark.{Mark}
use Rattle.sat_core.specs.Trail.{assigned, IsTrail, before_at, before_decision}
use Rattle.sat_core.specs.Watch.{CutAt, AtCuts, first_values}
use Rattle.sat_core.proofs.StandingLaws.{give_other}
use Rattle.sat_core.proofs.ClosedLaws.{Within}
use Rattle.sat_core.proofs.RestLaws.{some_none}

pub within_same : (a : Values) → Within a a
within_same a = record { at = λ x v e. e }

pub within_then : (a b c : Values) → Within a b → Within b c → Within a c
within_then a b c f g = record { at = λ x v e. g.at x v (f.at x v e) }

pub within_more : (a : Values) (l : Lit) → a (variable_of l) ≡ None → Within a (make_true a l)
within_more a l fresh = record {
  at = λ x v e. give_other a x (variable_of l) (is_positive l) (λ s. some_none v (sym e ∙ ap a s ∙ fresh)) ∙ e;
}

denies_more : (p : Bool) (o q : Option Bool) → ((v : Bool) → o ≡ Some v → q ≡ Some v) → denies p o ≡ true → denies p q ≡ true
denies_more p None q h t = absurd (false≢true t)
denies_more p (Some v) q h t = ap (denies p) (h v refl) ∙ t

grants_more : (p : Bool) (o q : Option Bool) → ((v : Bool) → o ≡ Some v → q ≡ Some v) → grants p o ≡ true → grants p q ≡ true
grants_more p None q h t = absurd (false≢true t)
grants_more p (Some v) q h t = ap (grants p) (h v refl) ∙ t

pub false_more : (b a : Values) (l : Lit) → Within b a → is_false b l ≡ true → is_false a l ≡ true
false_more b a l w t = denies_more (is_positive l) (b (variable_of l)) (a (variable_of l)) (w.at (variable_of l)) t

pub true_more : (b a : Values) (l : Lit) → Within b a → is_true b l ≡ true → is_true a l ≡ true
true_more b a l w t = grants_more (is_positive l) (b (variable_of l)) (a (variable_of l)) (w.at (variable_of l)) t

none_less_by : (o q : Option Bool) → ((v : Bool) → o ≡ Some v → q ≡ Some v) → q ≡ None → o ≡ None
none_less_by None q h e = refl
none_less_by (Some v) q h e = some_none v (sym (h v refl) ∙ e)

-- what is open under more values is open under fewer
pub none_less : (b a : Values) (x : ℕ) → Within b a → a x ≡ None → b x ≡ None
none_less b a x w e = none_less_by (b x) (a x) (w.at x) e

pub within_back : (cs : List (List Lit)) (leaves : ℕ) (xs ms : List Mark) → IsTrail cs leaves (xs ++ ms) → Within (assigned ms) (assigned (xs ++ ms))
within_back cs leaves [] ms ok = within_same (assigned ms)
within_back cs leaves (x ∷ xs) ms ok =
    within_then (assigned ms) (assigned (xs ++ ms)) (make_true (assigned (xs ++ ms)) x.lit) (within_back cs leaves xs ms ok.2) (within_more (assigned (xs ++ ms)) x.lit ok.0)

pub back_split : (n : ℕ) (marks : List Mark) → reverse marks ≡ reverse (drop n marks) ++ reverse (take n marks)
back_split n marks = ap reverse (sym (take-append-drop n marks)) ∙ reverse-append (take n marks) (drop n marks)

-- the values of the first marks are among those of all
pub within_first : (cs : List (List Lit)) (leaves n : ℕ) (marks : List Mark) → IsTrail cs leaves (reverse marks) → Within (first_values n marks) (assigned (reverse marks))
within_first cs leaves n marks ok =
    let e = back_split n marks in
    subst (λ (tr : List Mark). Within (first_values n marks) (assigned tr)) (sym e)
    (within_back cs leaves (reverse (drop n marks)) (reverse (take n marks)) (subst (IsTrail cs leaves) e ok))

cut_map : (P Q : Values → Type 0) (r : ℕ) (a : Values) (R S : Type 0) → (P a → Q a) → (R → S) → CutAt P r a R → CutAt Q r a S
cut_map P Q zero a R S f g h = (f h.0, g h.1)
cut_map P Q (suc r) a R S f g h = g h

-- what follows at each cut from the values there being among all
pub cuts_map : (P Q : Values → Type 0) (cs : List (List Lit)) (leaves : ℕ) (tr : List Mark) (a : Values) → IsTrail cs leaves tr → Within (assigned tr) a → ((v : Values) → Within v a → P v → Q v) → AtCuts P tr → AtCuts Q tr
cuts_map P Q cs leaves [] a ok w f h = tt
cuts_map P Q cs leaves (m ∷ ms) a ok w f h =
    let v = within_then (assigned ms) (make_true (assigned ms) m.lit) a (within_more (assigned ms) m.lit ok.0) w in
    cut_map P Q m.reason (assigned ms) (AtCuts P ms) (AtCuts Q ms) (f (assigned ms) v) (cuts_map P Q cs leaves ms a ok.2 v f) h

cut_rest : (P : Values → Type 0) (r : ℕ) (a : Values) (R : Type 0) → CutAt P r a R → R
cut_rest P zero a R h = h.1
cut_rest P (suc r) a R h = h

pub cuts_rest : (P : Values → Type 0) (m : Mark) (ms : List Mark) → AtCuts P (m ∷ ms) → AtCuts P ms
cuts_rest P m ms h = cut_rest P m.reason (assigned ms) (AtCuts P ms) h

pub cuts_here : (P : Values → Type 0) (m : Mark) (ms : List Mark) → m.reason ≡ 0 → AtCuts P (m ∷ ms) → P (assigned ms) × AtCuts P ms
cuts_here P m ms e h = subst (λ (r : ℕ). CutAt P r (assigned ms) (AtCuts P ms)) e h

none_cut : (P : Values → Type 0) (r : ℕ) (l : Lit) (ms : List Mark) → before_at r l ms (before_decision ms) ≡ None → (before_decision ms ≡ None → AtCuts P ms) → CutAt P r (assigned ms) (AtCuts P ms)
none_cut P zero l ms e f = absurd cc
none_cut P (suc r) l ms e f = f e

-- a trail without decisions has no cuts
pub cuts_none : (P : Values → Type 0) (tr : List Mark) → before_decision tr ≡ None → AtCuts P tr
cuts_none P [] e = tt
cuts_none P (m ∷ ms) e = none_cut P m.reason m.lit ms e (cuts_none P ms)
