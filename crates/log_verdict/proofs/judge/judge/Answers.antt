use Rattle.std.proofs.Common.{rules, ◌≤◌, length, arith, subst}
use Rattle.std.specs.Prelude.{Err}
use Rattle.cnf_core.specs.Dimacs.{Reads}
use Rattle.cnf_core.specs.Text.{text_lines}
use Rattle.lrat_checker.specs.Lrat.{lrat_of}
use Rattle.log_verdict.proofs.CountLaws.{bad_text}
use Rattle.log_verdict.proofs.judge.judge.Goals as goal

pub overflow_add-result : goal.overflow_add-result
overflow_add-result c =
    let bad = c.in-Err-Bad-read_lrat in
    let said = subst (λ f. Reads (Err f) (lrat_of c.args.log.now)) bad.field-0-is bad.ensures in
    let near : bad.line ≤ length (text_lines c.args.log.now) = bad_text c.args.log.now bad.line said in
    let fits = c.requires in
    first_of (search (rules, near, fits), grind (arith, near, fits))
