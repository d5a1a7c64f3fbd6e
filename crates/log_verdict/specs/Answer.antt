-- What a formula and a log in lines come to.
use Rattle.std.specs.Prelude.{◌≡◌, true, ℕ, suc, ◌+◌, List, length, Result, Ok, Err, codes}
use Rattle.cnf_core.specs.declared.formula.Formula.{Formula}
use Rattle.cnf_core.specs.declared.formula.Step.{Step}
use Rattle.cnf_core.specs.declared.fault.TextFault.{TextFault}
use Rattle.cnf_core.specs.declared.fault.TextFault.TheVariants.{Bad, NoMemory}
use Rattle.cnf_core.specs.Accepted.{refutes}
use Rattle.cnf_core.specs.Model.{HasNoModel}
use Rattle.cnf_core.specs.Dimacs.{at_line, read_words, start}
use Rattle.cnf_core.specs.Text.{words_from, last_line}
use Rattle.lrat_checker.specs.declared.answer.Checked.{Checked}
use Rattle.lrat_checker.specs.declared.answer.Checked.TheVariants as checked
use Rattle.lrat_checker.specs.Lrat.{as_fault, log_from}
use Rattle.lrat_checker.specs.Verdict.{verdict_of}
use Rattle.log_verdict.specs.declared.judge.LogAnswer.{LogAnswer}
use Rattle.log_verdict.specs.declared.judge.LogAnswer.TheVariants as answer
use Rattle.log_verdict.specs.Lines.{upto, past}

-- the formula that lines say
abbrev pub said_formula : List (List ℕ) → Result Formula TextFault
said_formula lines = at_line (last_line lines) (read_words start (words_from 1 lines))

-- the log that lines say
abbrev pub said_log : List (List ℕ) → Result (List Step) TextFault
said_log lines = as_fault (log_from 1 lines)

abbrev pub of_checked : Checked → LogAnswer
of_checked checked.Verified = answer.Verified
of_checked (checked.Rejected k) = answer.Rejected k

-- the log stands behind this many lines
abbrev pub of_log : ℕ → Formula → Result (List Step) TextFault → LogAnswer
of_log before formula (Ok log) = of_checked (verdict_of formula.clauses log)
of_log before formula (Err (Bad n)) = answer.BadLog (before + n)
of_log before formula (Err NoMemory) = answer.BadLog before

abbrev pub of_formula : ℕ → Result Formula TextFault → Result (List Step) TextFault → LogAnswer
of_formula before (Ok formula) log = of_log before formula log
of_formula before (Err (Bad n)) log = answer.BadFormula n
of_formula before (Err NoMemory) log = answer.BadFormula 0

-- the formula's text first, then the log's
abbrev pub answer_of : ℕ → List (List ℕ) → List (List ℕ) → LogAnswer
answer_of before formula log = of_formula before (said_formula formula) (said_log log)

abbrev pub proof_line : List ℕ
proof_line = codes "c proof"

abbrev pub next_line : List ℕ
next_line = codes "c next"

-- one text: the formula up to the first line `c proof`, then the log up to the first line `c next`
abbrev pub answer_of_one : List (List ℕ) → LogAnswer
answer_of_one lines = answer_of (suc (length (upto proof_line lines))) (upto proof_line lines) (upto next_line (past proof_line lines))

-- both texts are read, the log refutes the formula, and so the formula has no model
pub record IsRefuted (said : Result Formula TextFault) (log : Result (List Step) TextFault) : Type 0 where
  pub formula : Formula
  pub steps : List Step
  pub formula_said : said ≡ Ok formula
  pub steps_said : log ≡ Ok steps
  pub refuted : refutes formula.clauses steps ≡ true
  pub no_model : HasNoModel formula.clauses

-- the answer that the lines say, and it is Verified exactly where the log refutes the formula
pub record IsJudged (before : ℕ) (formula log : List (List ℕ)) (a : LogAnswer) : Type 0 where
  pub says : a ≡ answer_of before formula log
  pub sound : a ≡ answer.Verified → IsRefuted (said_formula formula) (said_log log)
  pub complete : IsRefuted (said_formula formula) (said_log log) → a ≡ answer.Verified

-- the same for one text
abbrev pub IsJudgedOne : List (List ℕ) → LogAnswer → Type 0
IsJudgedOne lines a = IsJudged (suc (length (upto proof_line lines))) (upto proof_line lines) (upto next_line (past proof_line lines)) a
