-- LRAT texts: a step a line, `id lits 0 hints 0` or `id d ids 0`.
use Rattle.std.specs.Prelude.{ℕ, ◌+◌, ◌^◌, ℤ, pos, negsuc, zero, suc, Bool, true, false, cond, eqb, List, [], ◌∷◌, ◌++◌, Option, Some, None, Result, Ok, Err, codes}
use Rattle.std.specs.Str.{bytes_eq}
use Rattle.cnf_core.specs.declared.formula.Step.{Step}
use Rattle.cnf_core.specs.declared.formula.Step.TheVariants.{Add, Delete}
use Rattle.cnf_core.specs.declared.fault.TextFault.{TextFault}
use Rattle.cnf_core.specs.declared.fault.TextFault.TheVariants.{Bad}
use Rattle.cnf_core.specs.Text.{text_lines, words_of, is_comment}
use Rattle.cnf_core.specs.Numbers.{number_below, integer_below}
use Rattle.cnf_core.specs.Dimacs.{if_some}

-- numbers before a 0, and the words behind it
pub record Found : Type 0 where
  pub numbers : List ℤ
  pub behind : List (List ℕ)

abbrev pub onto_found : ℤ → Option Found → Option Found
onto_found z None = None
onto_found z (Some f) = Some (record { numbers = z ∷ f.numbers; behind = f.behind })

-- the list goes on after a number, and ends at 0
abbrev pub go_on : ℤ → List (List ℕ) → Option Found → Option Found
go_on (pos zero) ws rest = Some (record { numbers = []; behind = ws })
go_on (pos (suc n)) ws rest = onto_found (pos (suc n)) rest
go_on (negsuc n) ws rest = onto_found (negsuc n) rest

-- the integers of absolute values below a bound up to the first 0
abbrev pub until_zero : ℕ → List (List ℕ) → Option Found
until_zero bound [] = None
until_zero bound (w ∷ ws) = if_some (integer_below bound w) None (λ z. go_on z ws (until_zero bound ws))

abbrev pub nothing_behind : List ℤ → List (List ℕ) → Option (List ℤ)
nothing_behind zs [] = Some zs
nothing_behind zs (w ∷ ws) = None

-- the numbers, where no word stands behind their 0
abbrev pub ended : Option Found → Option (List ℤ)
ended None = None
ended (Some f) = nothing_behind f.numbers f.behind

abbrev pub all_positive : List ℤ → Bool
all_positive [] = true
all_positive (pos n ∷ zs) = all_positive zs
all_positive (negsuc n ∷ zs) = false

abbrev pub deletion : Option (List ℤ) → Option Step
deletion None = None
deletion (Some ids) = cond (all_positive ids) (Some (Delete ids)) None

abbrev pub with_hints : ℕ → List ℤ → Option (List ℤ) → Option Step
with_hints id lits None = None
with_hints id lits (Some hints) = Some (Add id lits hints)

abbrev pub addition : ℕ → Option Found → Option Step
addition id None = None
addition id (Some f) = with_hints id f.numbers (ended (until_zero (2 ^ 63) f.behind))

abbrev pub after_id : ℕ → List (List ℕ) → Option Step
after_id id [] = None
after_id id (w ∷ ws) = cond (bytes_eq w (codes "d")) (deletion (ended (until_zero (2 ^ 63) ws))) (addition id (until_zero (2 ^ 30) (w ∷ ws)))

-- an id is a number above 0
abbrev pub id_of : List ℕ → Option ℕ
id_of w = if_some (number_below (2 ^ 63) w) None (λ n. cond (eqb n 0) None (Some n))

-- the step that the words of a line say
abbrev pub step_of : List (List ℕ) → Option Step
step_of [] = None
step_of (w ∷ ws) = if_some (id_of w) None (λ id. after_id id ws)

abbrev pub one_step : Option Step → Option (List Step)
one_step None = None
one_step (Some s) = Some (s ∷ [])

abbrev pub steps_of_words : List (List ℕ) → Option (List Step)
steps_of_words [] = Some []
steps_of_words (w ∷ ws) = one_step (step_of (w ∷ ws))

-- the step of a line; none in a comment and in a line of blanks alone
abbrev pub steps_of_line : List ℕ → Option (List Step)
steps_of_line l = cond (is_comment l) (Some []) (steps_of_words (words_of l))

abbrev pub onto_log : List Step → Result (List Step) ℕ → Result (List Step) ℕ
onto_log ss (Ok log) = Ok (ss ++ log)
onto_log ss (Err n) = Err n

-- the steps of the lines from number n on, or the first line that is of no form
abbrev pub log_from : ℕ → List (List ℕ) → Result (List Step) ℕ
log_from n [] = Ok []
log_from n (l ∷ ls) = if_some (steps_of_line l) (Err n) (λ ss. onto_log ss (log_from (n + 1) ls))

abbrev pub as_fault : Result (List Step) ℕ → Result (List Step) TextFault
as_fault (Ok log) = Ok log
as_fault (Err n) = Err (Bad n)

-- what a text says
abbrev pub lrat_of : List ℕ → Result (List Step) TextFault
lrat_of text = as_fault (log_from 1 (text_lines text))

abbrev pub onto_all : List ℤ → Option Found → Option Found
onto_all zs None = None
onto_all zs (Some f) = Some (record { numbers = zs ++ f.numbers; behind = f.behind })

abbrev pub logged : List Step → Option (List Step) → Option (List Step)
logged log None = None
logged log (Some ss) = Some (log ++ ss)
