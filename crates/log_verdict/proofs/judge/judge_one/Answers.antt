use Rattle.std.proofs.Common.{◌≡◌, ◌∙◌, suc, length, arith, ap}
use Rattle.cnf_core.specs.Text.{text_lines}
use Rattle.log_verdict.specs.Answer.{proof_line, next_line}
use Rattle.log_verdict.specs.Lines.{upto, past}
use Rattle.log_verdict.proofs.AnswerLaws.{judged_same}
use Rattle.log_verdict.proofs.CountLaws.{lines_room}
use Rattle.log_verdict.proofs.judge.judge_one.Goals as goal

pub judge-requires : goal.judge-requires
judge-requires c =
    let proof = c.in_ok-proof.ensures {u = tt} in
    let log = c.in_ok-log.ensures {u = tt} in
    let room = lines_room proof_line next_line c.args.text.now c.in_ok-log.log.front.items c.in_ok-proof.proof.behind.now c.in_ok-proof.proof.lines proof.lines proof.behind log.front in
    let same = ap (λ f. length (text_lines f)) c.as_slice-2.ensures.value in
    omega (arith, room, same)

pub returns : goal.returns
returns c =
    let proof = c.in_ok-proof.ensures {u = tt} in
    let log = c.in_ok-log.ensures {u = tt} in
    let lines = text_lines c.args.text.now in
    let front : text_lines c.as_slice.result.now ≡ upto proof_line lines = ap text_lines c.as_slice.ensures.value ∙ proof.front in
    let rest : text_lines c.as_slice-2.result.now ≡ upto next_line (past proof_line lines) = ap text_lines c.as_slice-2.ensures.value ∙ log.front ∙ ap (upto next_line) proof.behind in
    judged_same c.in_ok-proof.proof.lines (suc (length (upto proof_line lines))) (text_lines c.as_slice.result.now) (upto proof_line lines)
    (text_lines c.as_slice-2.result.now) (upto next_line (past proof_line lines)) c.judge.result proof.lines front rest c.judge.ensures
