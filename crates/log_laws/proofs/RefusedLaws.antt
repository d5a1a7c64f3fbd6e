-- The step that is named is the first that is refused.
use Rattle.std.proofs.Common.{◌≡◌, ◌≢◌, ◌+◌, ◌⊎◌, inl, inr, ℕ, ℤ, Bool, true, false, cond, List, [], ◌∷◌, ◌++◌, length, arith, refl, ap, ◌∙◌}
use Rattle.std.proofs.lemmas.Bool.{cond-true, cond-false}
use Rattle.cnf_core.specs.declared.lit.Lit.{Lit}
use Rattle.cnf_core.specs.declared.formula.Step.{Step}
use Rattle.cnf_core.specs.declared.formula.Step.TheVariants.{Add, Delete}
use Rattle.cnf_core.specs.Accepted.{Clauses, numbered, with_clause, without, is_accepted, has_empty}
use Rattle.lrat_checker.specs.declared.answer.Checked.{Checked}
use Rattle.lrat_checker.specs.declared.answer.Checked.TheVariants.{Verified, Rejected}
use Rattle.lrat_checker.specs.Verdict.{unless_empty, verdict_from, steps_verdict}
use Rattle.log_laws.specs.Refused.{after_step, last_with, after_steps, last_after, GoesOn, AllGoOn, IsRefused, IsFirstRefused, RejectedAtTheFirst}

-- after the steps in front the log ends, or its next step is refused
abbrev EndsOrRefused : Clauses → ℕ → List Step → Type 0
EndsOrRefused db last behind = (behind ≡ []) ⊎ ((step : Step) × (rest : List Step) × (behind ≡ step ∷ rest) × IsRefused db last step)

record RefusedFrom (db : Clauses) (last n : ℕ) (log : List Step) (k : ℕ) : Type 0 where
  front : List Step
  behind : List Step
  are : log ≡ front ++ behind
  go_on : AllGoOn db last front
  refused : EndsOrRefused (after_steps db front) (last_after last front) behind
  number : n + length front ≡ k

same_number : (n k : ℕ) → Rejected n ≡ Rejected k → n ≡ k
same_number n k e = cc

one_step_more : (db : Clauses) (last n k : ℕ) (s : Step) (log : List Step) → GoesOn db last s → RefusedFrom (after_step db s) (last_with last s) (n + 1) log k → RefusedFrom db last n (s ∷ log) k
one_step_more db last n k s log g r = record {
  front = s ∷ r.front;
  behind = r.behind;
  are = ap (λ (xs : List Step). s ∷ xs) r.are;
  go_on = (g, r.go_on);
  refused = r.refused;
  number = let e = r.number in omega (arith, e);
}

refused_here : (db : Clauses) (last n k id : ℕ) (lits : List Lit) (hints : List ℤ) (log : List Step) → is_accepted db last id lits hints ≡ false → n ≡ k → RefusedFrom db last n (Add id lits hints ∷ log) k
refused_here db last n k id lits hints log h e = record {
  front = [];
  behind = Add id lits hints ∷ log;
  are = refl;
  go_on = tt;
  refused = inr (Add id lits hints, log, refl, h);
  number = omega (arith, e);
}

accepted_from : (db : Clauses) (last n k id : ℕ) (lits : List Lit) (hints : List ℤ) (log : List Step) → is_accepted db last id lits hints ≡ true → (verdict_from (with_clause db id lits) id (n + 1) log ≡ Rejected k → RefusedFrom (with_clause db id lits) id (n + 1) log k) → unless_empty lits (verdict_from (with_clause db id lits) id (n + 1) log) ≡ Rejected k → RefusedFrom db last n (Add id lits hints ∷ log) k
accepted_from db last n k id [] hints log h more e = absurd cc
accepted_from db last n k id (l ∷ ls) hints log h more e = one_step_more db last n k (Add id (l ∷ ls) hints) log (h, λ z. absurd cc) (more e)

addition_from : (db : Clauses) (last n k id : ℕ) (lits : List Lit) (hints : List ℤ) (log : List Step) (b : Bool) → is_accepted db last id lits hints ≡ b → (verdict_from (with_clause db id lits) id (n + 1) log ≡ Rejected k → RefusedFrom (with_clause db id lits) id (n + 1) log k) → cond b (unless_empty lits (verdict_from (with_clause db id lits) id (n + 1) log)) (Rejected n) ≡ Rejected k → RefusedFrom db last n (Add id lits hints ∷ log) k
addition_from db last n k id lits hints log true h more e = accepted_from db last n k id lits hints log h more e
addition_from db last n k id lits hints log false h more e = refused_here db last n k id lits hints log h (same_number n k e)

refused_from : (db : Clauses) (last n k : ℕ) (log : List Step) → verdict_from db last n log ≡ Rejected k → RefusedFrom db last n log k
refused_from db last n k [] e = record { front = []; behind = []; are = refl; go_on = tt; refused = inl refl; number = let same = same_number n k e in omega (arith, same) }
refused_from db last n k (Delete ids ∷ log) e = one_step_more db last n k (Delete ids) log tt (refused_from (without db ids) last (n + 1) k log e)
refused_from db last n k (Add id lits hints ∷ log) e =
    addition_from db last n k id lits hints log (is_accepted db last id lits hints) refl (λ h. refused_from (with_clause db id lits) id (n + 1) k log h) e

not_empty : (lits : List Lit) (answer : Checked) → lits ≢ [] → unless_empty lits answer ≡ answer
not_empty [] answer h = absurd (h refl)
not_empty (l ∷ ls) answer h = refl

refused_step : (db : Clauses) (last n : ℕ) (s : Step) (rest : List Step) → IsRefused db last s → verdict_from db last n (s ∷ rest) ≡ Rejected n
refused_step db last n (Delete ids) rest h = absurd h
refused_step db last n (Add id lits hints) rest h = cond-false (is_accepted db last id lits hints) (unless_empty lits (verdict_from (with_clause db id lits) id (n + 1) rest)) (Rejected n) h

refused_end : (db : Clauses) (last n : ℕ) (behind : List Step) → EndsOrRefused db last behind → verdict_from db last n behind ≡ Rejected n
refused_end db last n behind (inl none) = ap (verdict_from db last n) none
refused_end db last n behind (inr r) = ap (verdict_from db last n) r.2 ∙ refused_step db last n r.0 r.1 r.3

step_passed : (db : Clauses) (last n : ℕ) (s : Step) (log : List Step) → GoesOn db last s → verdict_from db last n (s ∷ log) ≡ verdict_from (after_step db s) (last_with last s) (n + 1) log
step_passed db last n (Delete ids) log g = refl
step_passed db last n (Add id lits hints) log g =
    cond-true (is_accepted db last id lits hints) (unless_empty lits (verdict_from (with_clause db id lits) id (n + 1) log)) (Rejected n) g.0
    ∙ not_empty lits (verdict_from (with_clause db id lits) id (n + 1) log) g.1

refused_to : (db : Clauses) (last n k : ℕ) (front behind : List Step) → AllGoOn db last front → EndsOrRefused (after_steps db front) (last_after last front) behind → n + length front ≡ k → verdict_from db last n (front ++ behind) ≡ Rejected k
refused_to db last n k [] behind g r e = refused_end db last n behind r ∙ ap Rejected (omega (arith, e))
refused_to db last n k (s ∷ front) behind g r e =
    step_passed db last n s (front ++ behind) g.0 ∙ refused_to (after_step db s) (last_with last s) (n + 1) k front behind g.1 r (omega (arith, e))

not_verified : (b : Bool) (answer : Checked) (k : ℕ) → cond b Verified answer ≡ Rejected k → (b ≡ false) × (answer ≡ Rejected k)
not_verified true answer k e = absurd cc
not_verified false answer k e = (refl, e)

as_first : (cs : List (List Lit)) (log : List Step) (k : ℕ) → has_empty cs ≡ false → RefusedFrom (numbered cs) (length cs) 1 log k → IsFirstRefused cs log k
as_first cs log k full r = record {
  front = r.front;
  behind = r.behind;
  are = r.are;
  full = full;
  go_on = r.go_on;
  refused = r.refused;
  number = let e = r.number in omega (arith, e);
}

pub rejected_at_the_first : RejectedAtTheFirst
rejected_at_the_first cs log k = (
  λ r. let e = r.number in
      cond-false (has_empty cs) Verified (steps_verdict cs log) r.full
      ∙ ap (steps_verdict cs) r.are ∙ refused_to (numbered cs) (length cs) 1 k r.front r.behind r.go_on r.refused (omega (arith, e)),
  λ e. let n = not_verified (has_empty cs) (steps_verdict cs log) k e in as_first cs log k n.0 (refused_from (numbered cs) (length cs) 1 k log n.1),
)
