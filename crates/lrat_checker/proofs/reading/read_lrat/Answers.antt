use Rattle.std.proofs.Common.{ℕ, ◌+◌, List, Some, None, cond, Bool, ap, ◌∙◌, arith}
use Rattle.cnf_core.specs.Text.{text_lines}
use Rattle.lrat_checker.specs.Lrat.{log_from, onto_log}
use Rattle.lrat_checker.proofs.LratLaws.{log_goes_on}
use Rattle.lrat_checker.proofs.reading.read_lrat.Goals as goal

pub loop-rest-preserved : goal.loop-rest-preserved
loop-rest-preserved c =
    let n = c.loop-rest.line + 1 in
    let log = c.loop-rest.log in
    let new = c.take_line.new.log in
    record {
      steps = c.loop-rest.invariant.steps
          ∙ ap (λ (ls : List (List ℕ)). onto_log log (log_from n ls)) c.cut.ensures.parts
          ∙ log_goes_on n c.cut.result.0.now (text_lines c.cut.result.1.now) log new
          (c.in_ok-take_line.ensures ∙ ap (λ (b : Bool). cond b (Some new) None) c.if-not-branch.false);
      within = omega (arith, c.cut.ensures.shorter, c.loop-rest.invariant.within);
    }
