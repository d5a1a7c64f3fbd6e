-- The LRAT text that is written for a log, and the logs that a text can hold.
use Rattle.std.specs.Prelude.{◌≡◌, ℕ, ◌^◌, ◌≤◌, ◌<◌, true, List, [], ◌∷◌, ◌++◌, codes}
use Rattle.std.specs.Fmt.{decimal}
use Rattle.cnf_core.specs.declared.formula.Step.{Step}
use Rattle.cnf_core.specs.declared.formula.Step.TheVariants.{Add, Delete}
use Rattle.cnf_core.specs.Numbers.{numbers_text, AllFit}
use Rattle.lrat_checker.specs.Lrat.{all_positive}

abbrev pub step_text : Step → List ℕ
step_text (Add id lits hints) = decimal id ++ 32 ∷ numbers_text lits ++ 32 ∷ numbers_text hints ++ 10 ∷ []
step_text (Delete ids) = codes "1 d " ++ numbers_text ids ++ 10 ∷ []

abbrev pub log_text : List Step → List ℕ
log_text [] = []
log_text (s ∷ ss) = step_text s ++ log_text ss

-- a step that a line can hold
abbrev pub StepInText : Step → Type 0
StepInText (Add id lits hints) = (1 ≤ id) × (id < 2 ^ 63) × AllFit (2 ^ 30) lits × AllFit (2 ^ 63) hints
StepInText (Delete ids) = AllFit (2 ^ 63) ids × (all_positive ids ≡ true)

abbrev pub LogInText : List Step → Type 0
LogInText [] = Unit {0}
LogInText (s ∷ ss) = StepInText s × LogInText ss
