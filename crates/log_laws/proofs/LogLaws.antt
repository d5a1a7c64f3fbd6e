-- A log line by line.
use Rattle.std.proofs.Common.{◌≡◌, ◌+◌, ◌||◌, ◌⊎◌, inl, inr, not, ℕ, Bool, true, false, cond, List, [], ◌∷◌, ◌++◌, length, Option, Some, None, Result, Ok, Err, arith, refl, sym, ap, ◌∙◌, subst}
use Rattle.std.specs.Prelude.{filter}
use Rattle.std.specs.List.{AllZip}
use Rattle.cnf_core.specs.declared.formula.Step.{Step}
use Rattle.cnf_core.specs.declared.fault.TextFault.TheVariants.{Bad}
use Rattle.cnf_core.specs.Text.{text_lines, words_of, is_comment}
use Rattle.cnf_core.specs.Dimacs.{if_some}
use Rattle.lrat_checker.specs.Lrat.{step_of, one_step, steps_of_words, steps_of_line, onto_log, log_from, as_fault}
use Rattle.log_laws.specs.Spelled.{has_none, is_passed, SaysStep, SpellLog, Spells, IsFirstFault, ReadAsSpelled, RefusedAtItsFault, SpelledOrFaulty}
use Rattle.log_laws.proofs.StepLaws.{step_from, step_to}

-- what a line gives

passed_by : (b : Bool) (ws : List (List ℕ)) → (b || has_none ws) ≡ true → cond b (Some []) (steps_of_words ws) ≡ Some []
passed_by true ws h = refl
passed_by false [] h = refl
passed_by false (w ∷ ws) h = absurd cc

said_by : (b : Bool) (ws : List (List ℕ)) → (b || has_none ws) ≡ false → cond b (Some []) (steps_of_words ws) ≡ one_step (step_of ws)
said_by true ws h = absurd cc
said_by false [] h = absurd cc
said_by false (w ∷ ws) h = refl

line_passed : (l : List ℕ) → is_passed l ≡ true → steps_of_line l ≡ Some []
line_passed l h = passed_by (is_comment l) (words_of l) h

line_said : (l : List ℕ) → is_passed l ≡ false → steps_of_line l ≡ one_step (step_of (words_of l))
line_said l h = said_by (is_comment l) (words_of l) h

abbrev before : ℕ → List (List ℕ) → Option (List Step) → Result (List Step) ℕ
before n ls o = if_some o (Err n) (λ ss. onto_log ss (log_from (n + 1) ls))

nothing_onto : (r : Result (List Step) ℕ) → onto_log [] r ≡ r
nothing_onto (Ok log) = refl
nothing_onto (Err n) = refl

after_passed : (n : ℕ) (l : List ℕ) (ls : List (List ℕ)) → is_passed l ≡ true → log_from n (l ∷ ls) ≡ log_from (n + 1) ls
after_passed n l ls h = ap (before n ls) (line_passed l h) ∙ nothing_onto (log_from (n + 1) ls)

after_said : (n : ℕ) (l : List ℕ) (ls : List (List ℕ)) (o : Option Step) → is_passed l ≡ false → step_of (words_of l) ≡ o → log_from n (l ∷ ls) ≡ before n ls (one_step o)
after_said n l ls o h e = ap (before n ls) (line_said l h ∙ ap one_step e)

-- the lines that count, where the test of the first one is known
abbrev Counted : Bool → List ℕ → List (List ℕ) → List Step → Type 0
Counted passed l ls log = AllZip SaysStep (cond (not passed) (l ∷ filter (λ line. not (is_passed line)) ls) (filter (λ line. not (is_passed line)) ls)) log

counted : (b : Bool) (l : List ℕ) (ls : List (List ℕ)) (log : List Step) → is_passed l ≡ b → SpellLog (l ∷ ls) log → Counted b l ls log
counted b l ls log h s = subst (λ (p : Bool). Counted p l ls log) h s

from_counted : (b : Bool) (l : List ℕ) (ls : List (List ℕ)) (log : List Step) → is_passed l ≡ b → Counted b l ls log → SpellLog (l ∷ ls) log
from_counted b l ls log h s = subst (λ (p : Bool). Counted p l ls log) (sym h) s

-- a log that is spelled is read

read_line : (n : ℕ) (l : List ℕ) (ls : List (List ℕ)) (log : List Step) (b : Bool) → is_passed l ≡ b → ((rest : List Step) → SpellLog ls rest → log_from (n + 1) ls ≡ Ok rest) → Counted b l ls log → log_from n (l ∷ ls) ≡ Ok log
read_line n l ls log true h more s = after_passed n l ls h ∙ more log s
read_line n l ls [] false h more s = absurd s
read_line n l ls (step ∷ log) false h more s = after_said n l ls (Some step) h (step_to (words_of l) step s.0) ∙ ap (onto_log (step ∷ [])) (more log s.1)

log_read : (n : ℕ) (ls : List (List ℕ)) (log : List Step) → SpellLog ls log → log_from n ls ≡ Ok log
log_read n [] [] s = refl
log_read n [] (step ∷ log) s = absurd s
log_read n (l ∷ ls) log s = read_line n l ls log (is_passed l) refl (λ rest h. log_read (n + 1) ls rest h) s

-- a log that is read is spelled

joined_at : (step : Step) (r : Result (List Step) ℕ) (log : List Step) → onto_log (step ∷ []) r ≡ Ok log → (rest : List Step) × (r ≡ Ok rest) × (step ∷ rest ≡ log)
joined_at step (Ok rest) log e = (rest, refl, cc)
joined_at step (Err n) log e = absurd cc

said_line : (n : ℕ) (l : List ℕ) (ls : List (List ℕ)) (log : List Step) (o : Option Step) → is_passed l ≡ false → step_of (words_of l) ≡ o → ((rest : List Step) → log_from (n + 1) ls ≡ Ok rest → SpellLog ls rest) → before n ls (one_step o) ≡ Ok log → Counted false l ls log
said_line n l ls log None h t more e = absurd cc
said_line n l ls log (Some step) h t more e =
    let j = joined_at step (log_from (n + 1) ls) log e in
    subst (Counted false l ls) j.2 (step_from (words_of l) step t, more j.0 j.1)

said_any : (n : ℕ) (l : List ℕ) (ls : List (List ℕ)) (log : List Step) (b : Bool) → is_passed l ≡ b → ((rest : List Step) → log_from (n + 1) ls ≡ Ok rest → SpellLog ls rest) → log_from n (l ∷ ls) ≡ Ok log → Counted b l ls log
said_any n l ls log true h more e = more log (sym (after_passed n l ls h) ∙ e)
said_any n l ls log false h more e = said_line n l ls log (step_of (words_of l)) h refl more (sym (after_said n l ls (step_of (words_of l)) h refl) ∙ e)

abbrev read_log : List Step → Result (List Step) ℕ
read_log log = Ok log

no_log : (log : List Step) → read_log [] ≡ read_log log → AllZip SaysStep [] log
no_log [] e = tt
no_log (step ∷ log) e = absurd cc

log_said : (n : ℕ) (ls : List (List ℕ)) (log : List Step) → log_from n ls ≡ Ok log → SpellLog ls log
log_said n [] log e = no_log log e
log_said n (l ∷ ls) log e = from_counted (is_passed l) l ls log refl (said_any n l ls log (is_passed l) refl (λ rest h. log_said (n + 1) ls rest h) e)

-- the first line that says no step, where the first of all has the number n
record FaultFrom (n : ℕ) (ls : List (List ℕ)) (k : ℕ) : Type 0 where
  front : List (List ℕ)
  line : List ℕ
  behind : List (List ℕ)
  are : ls ≡ front ++ line ∷ behind
  fit : (log : List Step) × SpellLog front log
  said : is_passed line ≡ false
  unfit : (step : Step) → SaysStep line step → ⊥
  number : n + length front ≡ k

one_line_more : (n k : ℕ) (l : List ℕ) (ls : List (List ℕ)) → ((log : List Step) → (front : List (List ℕ)) → SpellLog front log → (more : List Step) × SpellLog (l ∷ front) more) → FaultFrom (n + 1) ls k → FaultFrom n (l ∷ ls) k
one_line_more n k l ls fits f = record {
  front = l ∷ f.front;
  line = f.line;
  behind = f.behind;
  are = ap (λ (xs : List (List ℕ)). l ∷ xs) f.are;
  fit = fits f.fit.0 f.front f.fit.1;
  said = f.said;
  unfit = f.unfit;
  number = let e = f.number in omega (arith, e);
}

fault_inside : (step : Step) (r : Result (List Step) ℕ) (k : ℕ) → onto_log (step ∷ []) r ≡ Err k → r ≡ Err k
fault_inside step (Ok log) k e = absurd cc
fault_inside step (Err n) k e = let same : n ≡ k = cc in ap Err same

fault_line : (n k : ℕ) (l : List ℕ) (ls : List (List ℕ)) (o : Option Step) → is_passed l ≡ false → step_of (words_of l) ≡ o → (log_from (n + 1) ls ≡ Err k → FaultFrom (n + 1) ls k) → before n ls (one_step o) ≡ Err k → FaultFrom n (l ∷ ls) k
fault_line n k l ls None h t more e = record {
  front = [];
  line = l;
  behind = ls;
  are = refl;
  fit = ([], tt);
  said = h;
  unfit = λ step s. let wrong : None ≡ Some step = sym t ∙ step_to (words_of l) step s in cc;
  number = let same : n ≡ k = cc in omega (arith, same);
}
fault_line n k l ls (Some step) h t more e =
    one_line_more n k l ls (λ log front s. (step ∷ log, from_counted false l front (step ∷ log) h (step_from (words_of l) step t, s)))
    (more (fault_inside step (log_from (n + 1) ls) k e))

fault_any : (n k : ℕ) (l : List ℕ) (ls : List (List ℕ)) (b : Bool) → is_passed l ≡ b → (log_from (n + 1) ls ≡ Err k → FaultFrom (n + 1) ls k) → log_from n (l ∷ ls) ≡ Err k → FaultFrom n (l ∷ ls) k
fault_any n k l ls true h more e = one_line_more n k l ls (λ log front s. (log, from_counted true l front log h s)) (more (sym (after_passed n l ls h) ∙ e))
fault_any n k l ls false h more e = fault_line n k l ls (step_of (words_of l)) h refl more (sym (after_said n l ls (step_of (words_of l)) h refl) ∙ e)

fault_from : (n k : ℕ) (ls : List (List ℕ)) → log_from n ls ≡ Err k → FaultFrom n ls k
fault_from n k [] e = absurd cc
fault_from n k (l ∷ ls) e = fault_any n k l ls (is_passed l) refl (λ h. fault_from (n + 1) k ls h) e

no_step : (ws : List (List ℕ)) (o : Option Step) → step_of ws ≡ o → ((step : Step) → step_of ws ≡ Some step → ⊥) → step_of ws ≡ None
no_step ws None h never = h
no_step ws (Some step) h never = absurd (never step h)

refused_line : (n : ℕ) (line : List ℕ) (behind : List (List ℕ)) → is_passed line ≡ false → ((step : Step) → SaysStep line step → ⊥) → log_from n (line ∷ behind) ≡ Err n
refused_line n line behind said unfit =
    after_said n line behind None said (no_step (words_of line) (step_of (words_of line)) refl (λ step h. unfit step (step_from (words_of line) step h)))

fit_line : (n m : ℕ) (l : List ℕ) (front rest : List (List ℕ)) (log : List Step) (b : Bool) → is_passed l ≡ b → ((more : List Step) → SpellLog front more → log_from (n + 1) (front ++ rest) ≡ Err m) → Counted b l front log → log_from n (l ∷ (front ++ rest)) ≡ Err m
fit_line n m l front rest log true h more s = after_passed n l (front ++ rest) h ∙ more log s
fit_line n m l front rest [] false h more s = absurd s
fit_line n m l front rest (step ∷ log) false h more s = after_said n l (front ++ rest) (Some step) h (step_to (words_of l) step s.0) ∙ ap (onto_log (step ∷ [])) (more log s.1)

fault_behind : (n m : ℕ) (front : List (List ℕ)) (log : List Step) (line : List ℕ) (behind : List (List ℕ)) → n + length front ≡ m → SpellLog front log → is_passed line ≡ false → ((step : Step) → SaysStep line step → ⊥) → log_from n (front ++ line ∷ behind) ≡ Err m
fault_behind n m [] log line behind e s said unfit = refused_line n line behind said unfit ∙ ap Err (omega (arith, e))
fault_behind n m (l ∷ front) log line behind e s said unfit =
    fit_line n m l front (line ∷ behind) log (is_passed l) refl (λ more h. fault_behind (n + 1) m front more line behind (omega (arith, e)) h said unfit) s

-- the laws

ok_inside : (r : Result (List Step) ℕ) (log : List Step) → as_fault r ≡ Ok log → r ≡ Ok log
ok_inside (Ok l) log e = let same : l ≡ log = cc in ap Ok same
ok_inside (Err n) log e = absurd cc

bad_inside : (r : Result (List Step) ℕ) (k : ℕ) → as_fault r ≡ Err (Bad k) → r ≡ Err k
bad_inside (Ok l) k e = absurd cc
bad_inside (Err n) k e = let same : n ≡ k = cc in ap Err same

pub read_as_spelled : ReadAsSpelled
read_as_spelled text log = (λ s. ap as_fault (log_read 1 (text_lines text) log s), λ e. log_said 1 (text_lines text) log (ok_inside (log_from 1 (text_lines text)) log e))

as_first : (text : List ℕ) (k : ℕ) → FaultFrom 1 (text_lines text) k → IsFirstFault text k
as_first text k f = record {
  front = f.front;
  line = f.line;
  behind = f.behind;
  are = f.are;
  fit = f.fit;
  said = f.said;
  unfit = f.unfit;
  number = let e = f.number in omega (arith, e);
}

pub refused_at_its_fault : RefusedAtItsFault
refused_at_its_fault text k = (
  λ f. let e = f.number in
      ap as_fault (ap (log_from 1) f.are ∙ fault_behind 1 k f.front f.fit.0 f.line f.behind (omega (arith, e)) f.fit.1 f.said f.unfit),
  λ e. as_first text k (fault_from 1 k (text_lines text) (bad_inside (log_from 1 (text_lines text)) k e)),
)

either_by : (text : List ℕ) (r : Result (List Step) ℕ) → log_from 1 (text_lines text) ≡ r → ((log : List Step) × Spells text log) ⊎ ((k : ℕ) × IsFirstFault text k)
either_by text (Ok log) e = inl (log, log_said 1 (text_lines text) log e)
either_by text (Err k) e = inr (k, as_first text k (fault_from 1 k (text_lines text) e))

pub spelled_or_faulty : SpelledOrFaulty
spelled_or_faulty text = either_by text (log_from 1 (text_lines text)) refl
