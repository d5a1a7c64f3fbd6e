-- The model of a full trail, which is the first in the order of leaves.
use Rattle.std.proofs.Common.{◌≡◌, ℕ, ◌≤◌, ◌<◌, Bool, true, false, cond, List, [], ◌∷◌, refl, sym, ap, ◌∙◌, Option, Some, None, inl, inr, slice_get, zero, suc, arith}
use Rattle.std.specs.List.{fold}
use Rattle.std.proofs.lemmas.Bool.{cases_eq, cases_lt, false≢true, or_parts}
use mathlib.Core.Bool.{beq, not}
use Rattle.cnf_core.specs.declared.lit.Lit.{Lit}
use Rattle.cnf_core.specs.declared.standing.Standing.TheVariants.{Falsified, Unit as UnitAt}
use Rattle.cnf_core.specs.Lit.{variable_of, is_positive}
use Rattle.cnf_core.specs.Model.{lit_true, clause_true, IsModel}
use Rattle.cnf_core.specs.Values.{Values, make_true, denies, is_false, meet, standing_of}
use Rattle.cnf_core.proofs.Sound.{Agrees, Agrees-true, Agrees-none, unit_true}
use Rattle.sat_core.specs.declared.trail.Mark.{Mark}
use Rattle.cnf_core.specs.Closed.{IsClosed, is_quiet, IsFirstModel}
use Rattle.cnf_core.specs.Learned.{Each}
use Rattle.sat_core.specs.Trail.{assigned, IsDecision, Reason, IsTrail}
use Rattle.sat_core.proofs.StandingLaws.{give_same, give_other}
use Rattle.sat_core.proofs.RestLaws.{none_before, some_none}

pub all_false : (a : Values) (c : List Lit) → Each (λ l. is_false a l ≡ true) c → standing_of a c ≡ Falsified
all_false a [] h = refl
all_false a (l ∷ ls) h = ap (λ (b : Bool). fold (meet a) (cond b Falsified (UnitAt l)) ls) h.0 ∙ all_false a ls h.1

false_at : (p b : Bool) (o : Option Bool) → (o ≡ None → ⊥) → ((d : Bool) → o ≡ Some d → b ≡ d) → beq b p ≡ false → denies p o ≡ true
false_at p b None given h t = absurd (given refl)
false_at p b (Some d) given h t = ap (λ (x : Bool). not (beq x p)) (sym (h d refl)) ∙ ap not t

each_false : (v : ℕ → Bool) (a : Values) (c : List Lit) → Agrees v a → Each (λ l. a (variable_of l) ≡ None → ⊥) c → clause_true v c ≡ false → Each (λ l. is_false a l ≡ true) c
each_false v a [] h given t = tt
each_false v a (l ∷ ls) h given t =
    let p = or_parts (lit_true v l) (clause_true v ls) t in
    (false_at (is_positive l) (v (variable_of l)) (a (variable_of l)) given.0 (λ d e. h.at (variable_of l) d e) p.0, each_false v a ls h given.1 p.1)

true_unless : (b : Bool) → (b ≡ false → ⊥) → b ≡ true
true_unless true h = refl
true_unless false h = absurd (h refl)

beq_self : (b : Bool) → beq b b ≡ true
beq_self true = refl
beq_self false = refl

beq_true : (p q : Bool) → beq p q ≡ true → p ≡ q
beq_true true true h = refl
beq_true true false h = absurd cc
beq_true false true h = absurd cc
beq_true false false h = refl

same_some : (x y : Bool) → ◌≡◌ {A = Option Bool} (Some x) (Some y) → x ≡ y
same_some x y e = cc

value_is : (v : ℕ → Bool) (o : Option Bool) (x : ℕ) → (o ≡ None → ⊥) → ((b : Bool) → o ≡ Some b → v x ≡ b) → v x ≡ true → o ≡ Some true
value_is v None x given h t = absurd (given refl)
value_is v (Some b) x given h t = ap Some (sym (h b refl) ∙ t)

-- no variable of the clauses is open
abbrev pub AllGiven : Values → List (List Lit) → Type 0
AllGiven a [] = Unit {0}
AllGiven a (c ∷ cs) = Each (λ l. a (variable_of l) ≡ None → ⊥) c × AllGiven a cs

pub model_of : (v : ℕ → Bool) (a : Values) (cs : List (List Lit)) → Agrees v a → AllGiven a cs → IsClosed a cs → IsModel v cs
model_of v a [] h given closed = tt
model_of v a (c ∷ cs) h given closed = (
  true_unless (clause_true v c) (λ t. false≢true (sym (ap (is_quiet a) (all_false a c (each_false v a c h given.0 t))) ∙ closed.0)),
  model_of v a cs h given.1 closed.1,
)

model_clause : (w : ℕ → Bool) (cs : List (List Lit)) (k : ℕ) (c : List Lit) → IsModel w cs → slice_get cs k ≡ Some c → clause_true w c ≡ true
model_clause w [] k c m e = absurd cc
model_clause w (d ∷ ds) zero c m e = let same : d ≡ c = cc in ap (clause_true w) (sym same) ∙ m.0
model_clause w (d ∷ ds) (suc k) c m e = model_clause w ds k c m.1 e

agrees_before : (v : ℕ → Bool) (a : Values) (l : Lit) → a (variable_of l) ≡ None → Agrees v (make_true a l) → Agrees v a
agrees_before v a l fresh h = record {
  at = λ x b e.
      h.at x b (give_other a x (variable_of l) (is_positive l) (λ s. some_none b (sym e ∙ ap a s ∙ fresh)) ∙ e);
}

module _ (cs : List (List Lit)) (leaves : ℕ) (v w : ℕ → Bool) (model : IsModel w cs) (x : ℕ) (above : 1 ≤ x) (same : (y : ℕ) → 1 ≤ y → y < x → w y ≡ v y) where
  decision_below : (a : Values) (l : Lit) → IsDecision leaves a l → make_true a l x ≡ None → variable_of l < x
  decision_below a l d h =
      let p = none_before a l x h in
      elim (cases_lt (variable_of l) x) [
        | inl lt ↦ lt
        | inr ge ↦ absurd (d.least x above (let ne : x ≡ variable_of l → ⊥ = p.0 in omega arith) p.1)
      ]

  follow_step : (a : Values) (l : Lit) (r : ℕ) → a (variable_of l) ≡ None → Reason cs leaves a l r → make_true a l x ≡ None → Agrees v (make_true a l) → Agrees w a → Agrees w (make_true a l)
  follow_step a l zero fresh why open_x hv hw =
      let here : v (variable_of l) ≡ is_positive l = hv.at (variable_of l) (is_positive l) (give_same a (variable_of l) (variable_of l) (is_positive l) refl) in
      Agrees-true w a l hw (ap (λ (b : Bool). beq b (is_positive l)) (same (variable_of l) why.above (decision_below a l why open_x) ∙ here) ∙ beq_self (is_positive l))
  follow_step a l (suc r) fresh why open_x hv hw =
      Agrees-true w a l hw (unit_true w a why.clause l hw (model_clause w cs r why.clause model why.there) why.unit)

  follows : (tr : List Mark) → IsTrail cs leaves tr → assigned tr x ≡ None → Agrees v (assigned tr) → Agrees w (assigned tr)
  follows [] ok open_x hv = Agrees-none w
  follows (m ∷ ms) ok open_x hv =
      follow_step (assigned ms) m.lit m.reason ok.0 ok.1 open_x hv
      (follows ms ok.2 (none_before (assigned ms) m.lit x open_x).1 (agrees_before v (assigned ms) m.lit ok.0 hv))

  positive_here : (a : Values) (l : Lit) (r : ℕ) → Reason cs leaves a l r → is_positive l ≡ true → Agrees w a → w (variable_of l) ≡ true
  positive_here a l zero why t hw = absurd (false≢true (sym why.negative ∙ t))
  positive_here a l (suc r) why t hw = beq_true (w (variable_of l)) (is_positive l) (unit_true w a why.clause l hw (model_clause w cs r why.clause model why.there) why.unit) ∙ t

  pub true_later : (tr : List Mark) → IsTrail cs leaves tr → assigned tr x ≡ Some true → Agrees v (assigned tr) → w x ≡ true
  true_later [] ok e hv = absurd cc
  true_later (m ∷ ms) ok e hv =
      elim (cases_eq x (variable_of m.lit)) [
        | inl s ↦
            let t : is_positive m.lit ≡ true = same_some _ _ (sym (give_same (assigned ms) x (variable_of m.lit) (is_positive m.lit) s) ∙ e) in
            ap w s ∙ positive_here (assigned ms) m.lit m.reason ok.1 t (follows ms ok.2 (ap (assigned ms) s ∙ ok.0) (agrees_before v (assigned ms) m.lit ok.0 hv))
        | inr ne ↦
            true_later ms ok.2 (sym (give_other (assigned ms) x (variable_of m.lit) (is_positive m.lit) ne) ∙ e) (agrees_before v (assigned ms) m.lit ok.0 hv)
      ]

-- the values of a full closed trail are the first model
pub first_model : (formula cs : List (List Lit)) (leaves : ℕ) (v : ℕ → Bool) (tr : List Mark) → IsTrail cs leaves tr → Agrees v (assigned tr) → IsModel v formula → ((w : ℕ → Bool) → IsModel w formula → IsModel w cs) → ((x : ℕ) → 1 ≤ x → x ≤ leaves → assigned tr x ≡ None → ⊥) → IsFirstModel formula leaves v
first_model formula cs leaves v tr ok hv m implied given = record {
  model = m;
  first = λ w mw x above leaf same t.
      true_later cs leaves v w (implied w mw) x above same tr ok (value_is v (assigned tr x) x (given x above leaf) (hv.at x) t) hv;
}
