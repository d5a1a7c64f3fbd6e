-- What the pairs of watched literals say of the clauses, and how a visit keeps it.
use Rattle.std.proofs.Common.{◌≡◌, ℕ, Bool, true, false, cond, List, [], ◌∷◌, refl, sym, ap, subst, ◌∙◌, Option, Some, None, inl, inr, ◌⊎◌, length, suc, arith}
use Rattle.std.specs.List.{fold}
use Rattle.std.proofs.lemmas.Bool.{false≢true, cond-false}
use Rattle.cnf_core.specs.declared.lit.Lit.{Lit}
use Rattle.cnf_core.specs.declared.standing.Standing.{Standing}
use Rattle.cnf_core.specs.declared.standing.Standing.TheVariants.{Falsified, Unit as UnitAt, Neither}
use Rattle.cnf_core.specs.Closed.{IsClosed, is_quiet}
use Rattle.cnf_core.specs.Learned.{Among}
use Rattle.cnf_core.specs.Lit.{variable_of, is_positive}
use Rattle.cnf_core.specs.Values.{Values, make_true, denies, grants, is_false, is_true, same_lit, joined, meet, standing_of}
use Rattle.sat_core.specs.declared.watching.Pair.{Pair}
use Rattle.sat_core.specs.Watch.{IsWatched, AreWatched}
use Rattle.sat_core.specs.Looks.{ArePair, OnlyOpen, IsFree}
use Rattle.sat_core.proofs.StandingLaws.{give_same, standing_unit, standing_falsified}
use Rattle.sat_core.proofs.ClosedLaws.{Within}
use Rattle.sat_core.proofs.LearnedLaws.{each_among, stands_fold}
use Rattle.sat_core.proofs.PassLaws.{unit_not_false}
use Rattle.sat_core.proofs.CutLaws.{false_more, true_more, within_more, none_less}
use Rattle.sat_core.proofs.LitLaws.{lit_cases, not_same}

not_both : (p : Bool) (o : Option Bool) → denies p o ≡ true → grants p o ≡ true → ⊥
not_both p None h g = false≢true h
not_both true (Some true) h g = false≢true h
not_both true (Some false) h g = false≢true g
not_both false (Some true) h g = false≢true g
not_both false (Some false) h g = false≢true h

pub not_false_true : (a : Values) (l : Lit) → is_false a l ≡ true → is_true a l ≡ true → ⊥
not_false_true a l f t = not_both (is_positive l) (a (variable_of l)) f t

given_true : (p q : Bool) (o : Option Bool) → grants p o ≡ true → denies q o ≡ false → grants q o ≡ true
given_true p q None g d = absurd (false≢true g)
given_true p true (Some true) g d = refl
given_true p true (Some false) g d = absurd (false≢true (sym d))
given_true p false (Some true) g d = absurd (false≢true (sym d))
given_true p false (Some false) g d = refl

quiet_unit : (a : Values) (c : List Lit) (l j : Lit) → Among l c → is_true a l ≡ true → standing_of a c ≡ UnitAt j → is_true a j ≡ true
quiet_unit a c l j there t e =
    elim (each_among (λ (k : Lit). (is_false a k ≡ true) ⊎ (variable_of k ≡ variable_of j)) c l (standing_unit a Falsified c j e).0 there) [
      | inl f ↦ absurd (not_false_true a l f t)
      | inr v ↦ given_true (is_positive l) (is_positive j) (a (variable_of j)) (ap (λ (x : ℕ). grants (is_positive l) (a x)) (sym v) ∙ t) (unit_not_false a c j e)
    ]

quiet_by : (a : Values) (c : List Lit) (l : Lit) (s : Standing) → standing_of a c ≡ s → Among l c → is_true a l ≡ true → is_quiet a s ≡ true
quiet_by a c l Falsified e there t = absurd (not_false_true a l (each_among (λ (k : Lit). is_false a k ≡ true) c l (standing_falsified a Falsified c e).0 there) t)
quiet_by a c l (UnitAt j) e there t = quiet_unit a c l j there t e
quiet_by a c l Neither e there t = refl

-- nothing is left to do for a clause with a true literal
quiet_true : (a : Values) (c : List Lit) (l : Lit) → Among l c → is_true a l ≡ true → is_quiet a (standing_of a c) ≡ true
quiet_true a c l there t = quiet_by a c l (standing_of a c) refl there t

same_both : (b : Bool) → cond b Neither Neither ≡ Neither
same_both true = refl
same_both false = refl

neither_fold : (a : Values) (c : List Lit) → fold (meet a) Neither c ≡ Neither
neither_fold a [] = refl
neither_fold a (l ∷ ls) = ap (λ (s : Standing). fold (meet a) s ls) (same_both (is_false a l)) ∙ neither_fold a ls

unit_met : (a : Values) (j l : Lit) → same_lit j l ≡ false → is_false a l ≡ false → meet a (UnitAt j) l ≡ Neither
unit_met a j l d f = cond-false (is_false a l) (UnitAt j) (joined (UnitAt j) l) f ∙ cond-false (same_lit j l) (UnitAt j) Neither d

unit_more : (a : Values) (k : Lit) (ks : List Lit) (j l : Lit) (b d : Bool) → fold (meet a) (UnitAt j) ks ≡ Neither → fold (meet a) (cond b (UnitAt j) (cond d (UnitAt j) Neither)) ks ≡ Neither
unit_more a k ks j l true d h = h
unit_more a k ks j l false true h = h
unit_more a k ks j l false false h = neither_fold a ks

-- a unit clause, so far, that goes on with another literal which isn't false
unit_then : (a : Values) (c : List Lit) (j l : Lit) → (j ≡ l → ⊥) → is_false a l ≡ false → Among l c → fold (meet a) (UnitAt j) c ≡ Neither
unit_then a [] j l ne f there = absurd there
unit_then a (k ∷ ks) j l ne f (inl e) =
    ap (λ (s : Standing). fold (meet a) s ks) (unit_met a j k (not_same j k (λ h. ne (h ∙ sym e))) (ap (is_false a) (sym e) ∙ f)) ∙ neither_fold a ks
unit_then a (k ∷ ks) j l ne f (inr there) = unit_more a k ks j l (is_false a k) (same_lit j k) (unit_then a ks j l ne f there)

two_at : (a : Values) (k : Lit) (ks : List Lit) (l m : Lit) → (l ≡ m → ⊥) → is_false a l ≡ false → is_false a m ≡ false → Among l (k ∷ ks) → Among m (k ∷ ks) → (k ≡ l) ⊎ (k ≡ l → ⊥) → fold (meet a) (UnitAt k) ks ≡ Neither
two_at a k ks l m ne f g (inl e) (inl h) d = absurd (ne (e ∙ sym h))
two_at a k ks l m ne f g (inl e) (inr t) d = unit_then a ks k m (λ h. ne (e ∙ h)) g t
two_at a k ks l m ne f g (inr t) (inl h) d = unit_then a ks k l (λ e. ne (sym e ∙ sym h)) f t
two_at a k ks l m ne f g (inr t) (inr u) (inl e) = unit_then a ks k m (λ h. ne (sym e ∙ h)) g u
two_at a k ks l m ne f g (inr t) (inr u) (inr d) = unit_then a ks k l d f t

later : (a : Values) (k : Lit) (ks : List Lit) (l : Lit) → is_false a k ≡ true → is_false a l ≡ false → Among l (k ∷ ks) → Among l ks
later a k ks l t f (inl e) = absurd (false≢true (sym f ∙ ap (is_false a) e ∙ t))
later a k ks l t f (inr h) = h

two_step : (a : Values) (k : Lit) (ks : List Lit) (l m : Lit) (b : Bool) → is_false a k ≡ b → (l ≡ m → ⊥) → is_false a l ≡ false → is_false a m ≡ false → Among l (k ∷ ks) → Among m (k ∷ ks) → (Among l ks → Among m ks → standing_of a ks ≡ Neither) → fold (meet a) (cond b Falsified (UnitAt k)) ks ≡ Neither
two_step a k ks l m true e ne f g t u rest = rest (later a k ks l e f t) (later a k ks m e g u)
two_step a k ks l m false e ne f g t u rest = two_at a k ks l m ne f g t u (lit_cases k l)

-- two different literals that aren't false
two_open : (a : Values) (c : List Lit) (l m : Lit) → (l ≡ m → ⊥) → is_false a l ≡ false → is_false a m ≡ false → Among l c → Among m c → standing_of a c ≡ Neither
two_open a [] l m ne f g t u = absurd t
two_open a (k ∷ ks) l m ne f g t u = two_step a k ks l m (is_false a k) refl ne f g t u (two_open a ks l m ne f g)

watched_by : (a : Values) (c : List Lit) (p : Pair) (w : IsWatched a a c p) (x y : Bool) → is_false a p.first ≡ x → is_false a p.second ≡ y → (p.first ≡ p.second → ⊥) → is_quiet a (standing_of a c) ≡ true
watched_by a c p w true y e h ne = quiet_true a c p.second w.second_there (w.first e)
watched_by a c p w false true e h ne = quiet_true a c p.first w.first_there (w.second h)
watched_by a c p w false false e h ne = ap (is_quiet a) (two_open a c p.first p.second ne e h w.first_there w.second_there)

-- a watched clause has nothing left to do once all literals are propagated
pub watched_quiet : (a : Values) (c : List Lit) (p : Pair) → IsWatched a a c p → is_quiet a (standing_of a c) ≡ true
watched_quiet a c p w = elim w.two [
  | inl ne ↦ watched_by a c p w (is_false a p.first) (is_false a p.second) refl refl ne
  | inr t ↦ quiet_true a c p.first w.first_there t
]

pub watched_closed : (a : Values) (cs : List (List Lit)) (ps : List Pair) → length ps ≡ length cs → AreWatched a a cs ps → IsClosed a cs
watched_closed a [] ps n w = tt
watched_closed a (c ∷ cs) [] n w = absurd (omega arith)
watched_closed a (c ∷ cs) (p ∷ ps) n w = (
  watched_quiet a c p (w 0 c p refl refl),
  watched_closed a cs ps (omega arith) (λ k d q e h. w (suc k) d q e h),
)

-- all values grew, the propagated ones did not
pub watched_more : (b a a' : Values) (c : List Lit) (p : Pair) → Within a a' → IsWatched b a c p → IsWatched b a' c p
watched_more b a a' c p g w = record {
  first_there = w.first_there;
  second_there = w.second_there;
  two = elim w.two [
    | inl ne ↦ inl ne
    | inr t ↦ inr (true_more a a' p.first g t)
  ];
  first = λ h. true_more a a' p.second g (w.first h);
  second = λ h. true_more a a' p.first g (w.second h);
}

-- no literal of the pair is made false, or the other one is true
pub watched_stays : (b b' a : Values) (c : List Lit) (p : Pair) (f : Lit) → ((w : Lit) → is_false b' w ≡ true → (w ≡ f) ⊎ (is_false b w ≡ true)) → (p.first ≡ f → is_true a p.second ≡ true) → (p.second ≡ f → is_true a p.first ≡ true) → IsWatched b a c p → IsWatched b' a c p
watched_stays b b' a c p f new x y w = record {
  first_there = w.first_there;
  second_there = w.second_there;
  two = w.two;
  first = λ h. elim (new p.first h) [
    | inl e ↦ x e
    | inr g ↦ w.first g
  ];
  second = λ h. elim (new p.second h) [
    | inl e ↦ y e
    | inr g ↦ w.second g
  ];
}

-- the other literal of the pair, where one is f
module _ (v u a : Values) (c : List Lit) (p : Pair) (f o : Lit) (w : IsWatched v u c p) (more : Within u a) (off : is_false a f ≡ true) (not_true : is_true a o ≡ false) where
  off_true : (l : Lit) → (l ≡ f) ⊎ (l ≡ o) → is_true u l ≡ true → ⊥
  off_true l (inl e) t = not_false_true a f off (ap (is_true a) (sym e) ∙ true_more u a l more t)
  off_true l (inr e) t = false≢true (sym not_true ∙ ap (is_true a) (sym e) ∙ true_more u a l more t)

  apart : ArePair p f o → o ≡ f → ⊥
  apart (inl h) e = elim w.two [
    | inl ne ↦ ne (h.0 ∙ sym e ∙ sym h.1)
    | inr t ↦ off_true p.first (inl h.0) t
  ]
  apart (inr h) e = elim w.two [
    | inl ne ↦ ne (h.1 ∙ e ∙ sym h.0)
    | inr t ↦ off_true p.first (inr h.1) t
  ]

  other_there : ArePair p f o → Among o c
  other_there (inl h) = subst (λ (l : Lit). Among l c) h.1 w.second_there
  other_there (inr h) = subst (λ (l : Lit). Among l c) h.1 w.first_there

  other_open : ArePair p f o → is_false v o ≡ true → ⊥
  other_open (inl h) t = off_true p.first (inl h.0) (w.second (ap (is_false v) h.1 ∙ t))
  other_open (inr h) t = off_true p.second (inl h.0) (w.first (ap (is_false v) h.1 ∙ t))

  -- the watch at f goes to a literal that isn't false
  pub watched_moves : (v' : Values) (n : Lit) → ArePair p f o → IsFree a c o n → Within v' a → ((l : Lit) → is_false v' l ≡ true → (l ≡ f) ⊎ (is_false v l ≡ true)) → IsWatched v' u c (record { first = o; second = n })
  watched_moves v' n pair free less new = record {
    first_there = other_there pair;
    second_there = free.there;
    two = inl (λ e. free.another (sym e));
    first = λ h. absurd (elim (new o h) [
      | inl e ↦ apart pair e
      | inr g ↦ other_open pair g
    ]);
    second = λ h. absurd (false≢true (sym free.not_false ∙ false_more v' a n less h));
  }

pub apart_from : (b a : Values) (c : List Lit) (p : Pair) (f o : Lit) → IsWatched b a c p → Within a a → is_false a f ≡ true → is_true a o ≡ false → ArePair p f o → o ≡ f → ⊥
apart_from b a c p f o w s off t pair e = apart b a a c p f o w s off t pair e

pub there_of : (b a : Values) (c : List Lit) (p : Pair) (f o : Lit) → IsWatched b a c p → ArePair p f o → Among o c
there_of b a c p f o w (inl h) = subst (λ (l : Lit). Among l c) h.1 w.second_there
there_of b a c p f o w (inr h) = subst (λ (l : Lit). Among l c) h.1 w.first_there

grants_given : (b : Bool) (o : Option Bool) → o ≡ Some b → grants b o ≡ true
grants_given true o e = ap (grants true) e
grants_given false o e = ap (grants false) e

pub true_here : (a : Values) (l : Lit) → is_true (make_true a l) l ≡ true
true_here a l = grants_given (is_positive l) _ (give_same a (variable_of l) (variable_of l) (is_positive l) refl)

open_by : (p : Bool) (o : Option Bool) → denies p o ≡ false → grants p o ≡ false → o ≡ None
open_by p None h g = refl
open_by true (Some true) h g = absurd (false≢true (sym g))
open_by true (Some false) h g = absurd (false≢true (sym h))
open_by false (Some true) h g = absurd (false≢true (sym h))
open_by false (Some false) h g = absurd (false≢true (sym g))

pub open_at : (a : Values) (l : Lit) → is_false a l ≡ false → is_true a l ≡ false → a (variable_of l) ≡ None
open_at a l f t = open_by (is_positive l) (a (variable_of l)) f t

-- once the other literal is true, the pair is as it should be
pub watched_forced : (b b' a : Values) (c : List Lit) (p : Pair) (f o : Lit) → IsWatched b a c p → a (variable_of o) ≡ None → Within b' a → ArePair p f o → IsWatched b' (make_true a o) c p
watched_forced b b' a c p f o w open_o less pair =
    let more = within_more a o open_o in
    let here = true_here a o in
    let not_off : is_false b' o ≡ true → ⊥ = λ h. false≢true (ap (denies (is_positive o)) (sym (none_less b' a (variable_of o) less open_o)) ∙ h) in
    record {
      first_there = w.first_there;
      second_there = w.second_there;
      two = elim w.two [
        | inl ne ↦ inl ne
        | inr t ↦ inr (true_more a (make_true a o) p.first more t)
      ];
      first = λ h. elim pair [
        | inl e ↦ ap (is_true (make_true a o)) e.1 ∙ here
        | inr e ↦ absurd (not_off (ap (is_false b') (sym e.1) ∙ h))
      ];
      second = λ h. elim pair [
        | inl e ↦ absurd (not_off (ap (is_false b') (sym e.1) ∙ h))
        | inr e ↦ ap (is_true (make_true a o)) e.1 ∙ here
      ];
    }

unit_by : (a : Values) (c : List Lit) (o : Lit) → (standing_of a c ≡ Falsified) ⊎ (standing_of a c ≡ UnitAt o) → Among o c → is_false a o ≡ false → standing_of a c ≡ UnitAt o
unit_by a c o (inl e) there f = absurd (false≢true (sym f ∙ each_among (λ (k : Lit). is_false a k ≡ true) c o (standing_falsified a Falsified c e).0 there))
unit_by a c o (inr e) there f = e

-- a clause whose other literals are all false is unit
pub unit_at : (a : Values) (c : List Lit) (o : Lit) → OnlyOpen a o c → Among o c → is_false a o ≡ false → standing_of a c ≡ UnitAt o
unit_at a c o only there f = unit_by a c o (stands_fold a o Falsified c only (inl refl)) there f
