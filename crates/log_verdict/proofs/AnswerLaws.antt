-- Verified comes exactly where the log refutes the formula.
use Rattle.std.proofs.Common.{◌≡◌, ◌∙◌, ℕ, List, Result, Ok, Err, IfOk, true, refl, sym, ap}
use Rattle.cnf_core.specs.declared.formula.Formula.{Formula}
use Rattle.cnf_core.specs.declared.formula.Step.{Step}
use Rattle.cnf_core.specs.declared.fault.TextFault.{TextFault}
use Rattle.cnf_core.specs.declared.fault.TextFault.TheVariants.{Bad, NoMemory}
use Rattle.cnf_core.specs.Accepted.{refutes}
use Rattle.cnf_core.proofs.Sound.{refuted_no_model}
use Rattle.lrat_checker.specs.declared.answer.Checked.{Checked}
use Rattle.lrat_checker.specs.declared.answer.Checked.TheVariants as checked
use Rattle.lrat_checker.specs.Verdict.{verdict_of}
use Rattle.lrat_checker.proofs.VerdictLaws.{refutes_from, verified_from}
use Rattle.log_verdict.specs.declared.judge.LogAnswer.{LogAnswer}
use Rattle.log_verdict.specs.declared.judge.LogAnswer.TheVariants as answer
use Rattle.log_verdict.specs.Answer.{IsJudged, IsRefuted, answer_of, of_checked, of_formula, said_formula, said_log}

was_verified : (r : Checked) → of_checked r ≡ answer.Verified → r ≡ checked.Verified
was_verified checked.Verified e = refl
was_verified (checked.Rejected k) e = absurd cc

sound_at : (before : ℕ) (said : Result Formula TextFault) (log : Result (List Step) TextFault) → of_formula before said log ≡ answer.Verified → IsRefuted said log
sound_at before (Ok f) (Ok steps) e =
    let refuted : refutes f.clauses steps ≡ true = refutes_from f.clauses steps (verdict_of f.clauses steps) refl (was_verified (verdict_of f.clauses steps) e) in
    record { formula = f; steps = steps; formula_said = refl; steps_said = refl; refuted = refuted; no_model = refuted_no_model f.clauses steps refuted }
sound_at before (Ok f) (Err (Bad n)) e = absurd cc
sound_at before (Ok f) (Err NoMemory) e = absurd cc
sound_at before (Err (Bad n)) log e = absurd cc
sound_at before (Err NoMemory) log e = absurd cc

complete_at : (before : ℕ) (said : Result Formula TextFault) (log : Result (List Step) TextFault) → IsRefuted said log → of_formula before said log ≡ answer.Verified
complete_at before said log r =
    ap (λ s. of_formula before s log) r.formula_said ∙ ap (λ l. of_formula before (Ok r.formula) l) r.steps_said
    ∙ ap of_checked (verified_from r.formula.clauses r.steps (verdict_of r.formula.clauses r.steps) refl r.refuted)

pub judged : (before : ℕ) (formula log : List (List ℕ)) (a : LogAnswer) → a ≡ answer_of before formula log → IsJudged before formula log a
judged before formula log a e = record {
  says = e;
  sound = λ v. sound_at before (said_formula formula) (said_log log) (sym e ∙ v);
  complete = λ r. e ∙ complete_at before (said_formula formula) (said_log log) r;
}

-- the same under a refusal of memory
pub judged_ok : {E : Type 0} (before : ℕ) (formula log : List (List ℕ)) (r : Result LogAnswer E) → IfOk r (λ a. a ≡ answer_of before formula log) → IfOk r (IsJudged before formula log)
judged_ok before formula log (Ok a) e = judged before formula log a e
judged_ok before formula log (Err x) e = tt

-- the same over equal lines
pub judged_same : {E : Type 0} (before first : ℕ) (formula f log l : List (List ℕ)) (r : Result LogAnswer E) → before ≡ first → formula ≡ f → log ≡ l
    → IfOk r (λ a. a ≡ answer_of before formula log) → IfOk r (IsJudged first f l)
judged_same before first formula f log l (Ok a) eb ef el e =
    judged first f l a (e ∙ ap (λ x. answer_of x formula log) eb ∙ ap (λ x. answer_of first x log) ef ∙ ap (λ x. answer_of first f x) el)
judged_same before first formula f log l (Err x) eb ef el e = tt
