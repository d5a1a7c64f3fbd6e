-- A formula, a line `c proof` and a log in one text.
use Rattle.std.specs.Prelude.{◌≡◌, ◌⊎◌, ℕ, suc, List, [], ◌∷◌, ◌++◌, length, Contains}
use Rattle.cnf_core.specs.declared.formula.Formula.{Formula}
use Rattle.cnf_core.specs.declared.formula.Step.{Step}
use Rattle.cnf_core.specs.Text.{text_lines}
use Rattle.cnf_core.specs.DimacsText.{dimacs_text, IsInText}
use Rattle.lrat_checker.specs.LratText.{log_text, LogInText}
use Rattle.lrat_checker.specs.Verdict.{verdict_of}
use Rattle.log_verdict.specs.Answer.{answer_of, answer_of_one, of_checked, proof_line, next_line}

-- empty, or with a newline at its end
abbrev pub IsWhole : List ℕ → Type 0
IsWhole text = (text ≡ []) ⊎ ((body : List ℕ) × (text ≡ body ++ 10 ∷ []))

abbrev pub joined_text : List ℕ → List ℕ → List ℕ
joined_text formula log = formula ++ (proof_line ++ 10 ∷ log)

-- a formula's text with no line `c proof` in it, and a log's with no line `c next`, are judged in one text as they are apart; the lines of the log are counted in the whole
abbrev pub JudgedAsApart : Type 0
JudgedAsApart = (formula log : List ℕ) → IsWhole formula → (Contains (text_lines formula) proof_line → ⊥) → (Contains (text_lines log) next_line → ⊥)
    → answer_of_one (text_lines (joined_text formula log)) ≡ answer_of (suc (length (text_lines formula))) (text_lines formula) (text_lines log)

-- what is printed of a formula and a log, each of which a text can hold, is judged as these two
abbrev pub PrintedIsJudged : Type 0
PrintedIsJudged = (f : Formula) (log : List Step) → IsInText f → LogInText log → answer_of_one (text_lines (joined_text (dimacs_text f) (log_text log))) ≡ of_checked (verdict_of f.clauses log)
