-- There is always an answer for a log.
use Rattle.std.proofs.Common.{ℕ, suc, List, [], ◌∷◌, length, refl}
use Rattle.bits_core.specs.declared.names.File.{File}
use Rattle.cnf_core.specs.Text.{text_lines}
use Rattle.log_verdict.specs.Answer.{IsJudged, answer_of, proof_line, next_line}
use Rattle.log_verdict.specs.Lines.{upto, past}
use Rattle.log_verdict.proofs.AnswerLaws.{judged}
use Rattle.conncheck.specs.Reply.{Reply, logged}
use Rattle.conncheck.specs.commands.Lrat.{IsLogged, OfLogs}

some_answer : (before : ℕ) (formula log : List (List ℕ)) → (x : Reply) × IsLogged (IsJudged before formula log) x
some_answer before formula log = (
  logged (answer_of before formula log),
  record { answer = answer_of before formula log; is_answer = judged before formula log (answer_of before formula log) refl; is_logged = refl },
)

pub some_log : (files : List File) → (x : Reply) × OfLogs files x
some_log [] = some_answer (suc (length (upto proof_line []))) (upto proof_line []) (upto next_line (past proof_line []))
some_log (f ∷ []) = let ls = text_lines f.bytes in some_answer (suc (length (upto proof_line ls))) (upto proof_line ls) (upto next_line (past proof_line ls))
some_log (f ∷ l ∷ fs) = some_answer 0 (text_lines f.bytes) (text_lines l.bytes)
