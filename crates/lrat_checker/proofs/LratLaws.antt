-- A log is read line by line.
use Rattle.std.proofs.Common.{◌≡◌, ℕ, ◌+◌, List, ◌∷◌, ◌++◌, refl, sym, ap, ◌∙◌, Option, Some, None, Result, Ok, Err, append_assoc}
use Rattle.cnf_core.specs.declared.formula.Step.{Step}
use Rattle.cnf_core.specs.Dimacs.{if_some}
use Rattle.lrat_checker.specs.Lrat.{steps_of_line, onto_log, log_from, logged}

goes_on_by : (n : ℕ) (log new : List Step) (o : Option (List Step)) (r : Result (List Step) ℕ) → logged log o ≡ Some new → onto_log log (if_some o (Err n) (λ ss. onto_log ss r)) ≡ onto_log new r
goes_on_by n log new None r e = absurd cc
goes_on_by n log new (Some ss) (Ok xs) e =
    let same : log ++ ss ≡ new = cc in
    ap Ok (sym (append_assoc log ss xs) ∙ ap (λ (ys : List Step). ys ++ xs) same)
goes_on_by n log new (Some ss) (Err k) e = refl

pub log_goes_on : (n : ℕ) (front : List ℕ) (ls : List (List ℕ)) (log new : List Step) → logged log (steps_of_line front) ≡ Some new → onto_log log (log_from n (front ∷ ls)) ≡ onto_log new (log_from (n + 1) ls)
log_goes_on n front ls log new e = goes_on_by n log new (steps_of_line front) (log_from (n + 1) ls) e
