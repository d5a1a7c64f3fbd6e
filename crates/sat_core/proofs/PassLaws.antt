-- One clause of a pass.
use Rattle.std.proofs.Common.{◌≡◌, ℕ, ◌+◌, ◌<◌, ◌≤◌, Bool, true, false, cond, List, [], ◌∷◌, ◌++◌, refl, sym, ap, subst, ◌∙◌, Option, Some, None, inl, inr, slice_get, get_or, set, take, length, reverse, suc, arith, get_or-set_other, add-one, All}
use Rattle.std.specs.List.{fold}
use Rattle.std.specs.Option.{is_none}
use Rattle.std.proofs.lemmas.List.Sums.{sum_by-set}
use Rattle.std.proofs.lemmas.List.Elements.{All-push, All-same}
use Rattle.std.proofs.lemmas.List.{length-set}
use Rattle.std.proofs.lemmas.Option.{slice_get_within}
use Rattle.std.proofs.Math.Path.{fun_ext}
use Rattle.std.proofs.lemmas.Bool.{cases_eq, false≢true}
use Rattle.std.proofs.lemmas.List.{reverse-append}
use Rattle.std.proofs.lemmas.Grind.{get_or-set_at, take_at_read}
use Rattle.cnf_core.specs.declared.lit.Lit.{Lit}
use Rattle.cnf_core.specs.declared.standing.Standing.{Standing}
use Rattle.cnf_core.specs.declared.standing.Standing.TheVariants.{Falsified, Unit as UnitAt, Neither}
use Rattle.cnf_core.specs.Lit.{variable_of, is_positive}
use Rattle.cnf_core.specs.Values.{Values, give, make_true, denies, grants, is_false, is_true, same_lit, joined, meet, standing_of}
use Rattle.sat_core.specs.declared.trail.Mark.{Mark}
use Rattle.cnf_core.specs.Closed.{IsClosed, is_quiet}
use Rattle.sat_core.specs.Trail.{assigned, IsTrail, before_decision}
use Rattle.sat_core.specs.Sync.{reads, open_count, IsSynced, Grew}
use Rattle.sat_core.specs.Round.{IsLeastOpen, ClosedIf, BeforeClosed}
use Rattle.sat_core.proofs.StandingLaws.{give_same, give_other}

open_from : (p : Bool) (o : Option Bool) → denies p o ≡ false → grants p o ≡ false → o ≡ None
open_from p None h g = refl
open_from true (Some true) h g = absurd (false≢true (sym g))
open_from true (Some false) h g = absurd (false≢true (sym h))
open_from false (Some true) h g = absurd (false≢true (sym h))
open_from false (Some false) h g = absurd (false≢true (sym g))

pub reads-set : (vs : List (Option Bool)) (x : ℕ) (b : Bool) → x < length vs → reads (set vs x (Some b)) ≡ give (reads vs) x b
reads-set vs x b h =
    fun_ext (λ y. elim (cases_eq y x) [
      | inl e ↦ get_or-set_at vs x y (Some b) None e h ∙ sym (give_same (reads vs) y x b e)
      | inr ne ↦ get_or-set_other vs x y (Some b) None ne ∙ sym (give_other (reads vs) y x b ne)
    ])

newest : (marks : List Mark) (m : Mark) → reverse (marks ++ m ∷ []) ≡ m ∷ reverse marks
newest marks m = reverse-append marks (m ∷ [])

pub IsClosed-snoc : (a : Values) (cs : List (List Lit)) (c : List Lit) → IsClosed a cs → is_quiet a (standing_of a c) ≡ true → IsClosed a (cs ++ c ∷ [])
IsClosed-snoc a [] c h q = (q, tt)
IsClosed-snoc a (d ∷ ds) c h q = (h.0, IsClosed-snoc a ds c h.1 q)

cond_unit : (b : Bool) (i j : Lit) → cond b (UnitAt i) Neither ≡ UnitAt j → UnitAt i ≡ UnitAt j
cond_unit true i j h = h
cond_unit false i j h = absurd cc

-- a literal that a clause is unit at is not false
unit_open_step : (a : Values) (s : Standing) (k l : Lit) (b : Bool) → is_false a k ≡ b → ((j : Lit) → s ≡ UnitAt j → is_false a j ≡ false) → (j : Lit) → cond b s (joined s k) ≡ UnitAt j → is_false a j ≡ false
unit_open_step a s k l true e f j h = f j h
unit_open_step a Falsified k l false e f j h = let same : k ≡ j = cc in ap (is_false a) (sym same) ∙ e
unit_open_step a (UnitAt i) k l false e f j h = f j (cond_unit (same_lit i k) i j h)
unit_open_step a Neither k l false e f j h = absurd cc

unit_open : (a : Values) (s : Standing) (c : List Lit) (l : Lit) → fold (meet a) s c ≡ UnitAt l → ((j : Lit) → s ≡ UnitAt j → is_false a j ≡ false) → is_false a l ≡ false
unit_open a s [] l h f = f l h
unit_open a s (k ∷ ks) l h f = unit_open a (meet a s k) ks l h (unit_open_step a s k l (is_false a k) refl f)

pub unit_not_false : (a : Values) (c : List Lit) (l : Lit) → standing_of a c ≡ UnitAt l → is_false a l ≡ false
unit_not_false a c l h = unit_open a Falsified c l h (λ j e. absurd cc)

marks_fit_more : (values values' : List (Option Bool)) (marks marks' : List Mark) (m : Mark) (x : ℕ) (o : Option Bool) → marks' ≡ marks ++ m ∷ [] → values' ≡ set values x o → All (λ i. variable_of i.lit < length values) marks → variable_of m.lit < length values → All (λ i. variable_of i.lit < length values') marks'
marks_fit_more values values' marks marks' m x o me ve h p =
    let same : length values' ≡ length values = ap length ve ∙ length-set values x o in
    All-same (λ (i : Mark). variable_of i.lit < length values') _ _ me
    (All-push (λ (i : Mark). variable_of i.lit < length values') marks m
    (λ k d lt. omega (arith, same, h k d lt)) (omega (arith, same, p)))

reasons_more : (cs : List (List Lit)) (marks marks' : List Mark) (m : Mark) → marks' ≡ marks ++ m ∷ [] → All (λ i. i.reason ≤ length cs) marks → m.reason ≤ length cs → All (λ i. i.reason ≤ length cs) marks'
reasons_more cs marks marks' m me h p =
    All-same (λ (i : Mark). i.reason ≤ length cs) _ _ me (All-push (λ (i : Mark). i.reason ≤ length cs) marks m h p)

-- a forced literal is put on the trail
module _ (cs : List (List Lit)) (leaves k : ℕ) (c : List Lit) (l : Lit) (marks marks' : List Mark) (values values' : List (Option Bool)) (s : IsSynced cs leaves marks values) (there : slice_get cs k ≡ Some c) (unit : standing_of (reads values) c ≡ UnitAt l) (off : is_true (reads values) l ≡ false) (in' : variable_of l < length values) (me : marks' ≡ marks ++ record { lit = l; reason = k + 1 } ∷ []) (ve : values' ≡ set values (variable_of l) (Some (is_positive l))) where
  open_at : reads values (variable_of l) ≡ None
  open_at = open_from (is_positive l) (reads values (variable_of l)) (unit_not_false (reads values) c l unit) off

  mark_is : reverse marks' ≡ record { lit = l; reason = suc k } ∷ reverse marks
  mark_is =
      ap reverse me ∙ newest marks (record { lit = l; reason = k + 1 })
      ∙ ap (λ (r : ℕ). record { lit = l; reason = r } ∷ reverse marks) (add-one k)

  values_is : reads values' ≡ make_true (assigned (reverse marks)) l
  values_is = ap reads ve ∙ reads-set values (variable_of l) (is_positive l) in' ∙ ap (λ (b : Values). make_true b l) s.values_are

  trail_is : IsTrail cs leaves (record { lit = l; reason = suc k } ∷ reverse marks)
  trail_is = (
    ap (λ (b : Values). b (variable_of l)) (sym s.values_are) ∙ open_at,
    record { clause = c; there = there; unit = ap (λ (b : Values). standing_of b c) (sym s.values_are) ∙ unit },
    s.trail,
  )

  pub forced_fewer : open_count values' < open_count values
  forced_fewer =
      let f : Option Bool → ℕ = λ o. cond (is_none o) 1 0 in
      let was : f (get_or values (variable_of l) None) ≡ 1 = ap f open_at in
      let now : open_count (set values (variable_of l) (Some (is_positive l))) + f (get_or values (variable_of l) None) ≡ open_count values + 0 =
      sum_by-set f values (variable_of l) (Some (is_positive l)) None in' in
      omega (arith, was, now, ap open_count ve)

  pub forced : Grew cs leaves marks values marks' values'
  forced = record {
    synced = record {
      values_are = values_is ∙ ap assigned (sym mark_is);
      trail = subst (IsTrail cs leaves) (sym mark_is) trail_is;
      marks_fit = marks_fit_more values values' marks marks' (record { lit = l; reason = k + 1 }) (variable_of l) (Some (is_positive l)) me ve s.marks_fit in';
      reasons = reasons_more cs marks marks' (record { lit = l; reason = k + 1 }) me s.reasons (let lt = slice_get_within cs k c there in omega arith);
    };
    decision = ap before_decision mark_is;
    fewer = omega (arith, forced_fewer);
  }

pub Grew-then : (cs : List (List Lit)) (leaves : ℕ) (m1 m2 m3 : List Mark) (v1 v2 v3 : List (Option Bool)) → Grew cs leaves m1 v1 m2 v2 → Grew cs leaves m2 v2 m3 v3 → Grew cs leaves m1 v1 m3 v3
Grew-then cs leaves m1 m2 m3 v1 v2 v3 g h = record { synced = h.synced; decision = h.decision ∙ g.decision; fewer = omega (arith, g.fewer, h.fewer) }

pub closed_more : (a : Values) (cs : List (List Lit)) (k : ℕ) (c : List Lit) → k < length cs → c ≡ get_or cs k c → IsClosed a (take k cs) → is_quiet a (standing_of a c) ≡ true → IsClosed a (take (k + 1) cs)
closed_more a cs k c lt read h q =
    subst (IsClosed a) (sym ((take_at_read cs k c lt).1 ∙ ap (λ (d : List Lit). take k cs ++ d ∷ []) (sym read))) (IsClosed-snoc a (take k cs) c h q)

-- the least open leaf is made false
module _ (cs : List (List Lit)) (leaves : ℕ) (l : Lit) (marks marks' : List Mark) (values values' : List (Option Bool)) (s : IsSynced cs leaves marks values) (closed : IsClosed (reads values) cs) (least : IsLeastOpen leaves (reads values) (variable_of l)) (sign : is_positive l ≡ false) (in' : variable_of l < length values) (me : marks' ≡ marks ++ record { lit = l; reason = 0 } ∷ []) (ve : values' ≡ set values (variable_of l) (Some (is_positive l))) where
  decision_mark : reverse marks' ≡ record { lit = l; reason = 0 } ∷ reverse marks
  decision_mark = ap reverse me ∙ newest marks (record { lit = l; reason = 0 })

  decision_values : reads values' ≡ make_true (assigned (reverse marks)) l
  decision_values = ap reads ve ∙ reads-set values (variable_of l) (is_positive l) in' ∙ ap (λ (b : Values). make_true b l) s.values_are

  decision_trail : IsTrail cs leaves (record { lit = l; reason = 0 } ∷ reverse marks)
  decision_trail = (
    ap (λ (b : Values). b (variable_of l)) (sym s.values_are) ∙ least.none,
    record {
      negative = sign;
      above = least.above;
      leaf = least.leaf;
      least = λ y p q h. least.least y p q (ap (λ (b : Values). b y) s.values_are ∙ h);
    },
    s.trail,
  )

  pub decided_synced : IsSynced cs leaves marks' values'
  decided_synced = record {
    values_are = decision_values ∙ ap assigned (sym decision_mark);
    trail = subst (IsTrail cs leaves) (sym decision_mark) decision_trail;
    marks_fit = marks_fit_more values values' marks marks' (record { lit = l; reason = 0 }) (variable_of l) (Some (is_positive l)) me ve s.marks_fit in';
    reasons = reasons_more cs marks marks' (record { lit = l; reason = 0 }) me s.reasons (omega arith);
  }

  pub decided_closed : BeforeClosed cs marks'
  decided_closed = subst (λ (ms : List Mark). ClosedIf cs (before_decision ms)) (sym decision_mark) (subst (λ (b : Values). IsClosed b cs) s.values_are closed)

  pub decided_fewer : open_count values' < open_count values
  decided_fewer =
      let f : Option Bool → ℕ = λ o. cond (is_none o) 1 0 in
      let was : f (get_or values (variable_of l) None) ≡ 1 = ap f least.none in
      let now : open_count (set values (variable_of l) (Some (is_positive l))) + f (get_or values (variable_of l) None) ≡ open_count values + 0 =
      sum_by-set f values (variable_of l) (Some (is_positive l)) None in' in
      omega (arith, was, now, ap open_count ve)

pub closed_kept : (cs : List (List Lit)) (leaves : ℕ) (m1 m2 : List Mark) (v1 v2 : List (Option Bool)) → Grew cs leaves m1 v1 m2 v2 → BeforeClosed cs m1 → BeforeClosed cs m2
closed_kept cs leaves m1 m2 v1 v2 g h = subst (ClosedIf cs) (sym g.decision) h
