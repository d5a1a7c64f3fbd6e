use Rattle.std.proofs.Common.{rules, arith, ap, ◌∙◌}
use Rattle.std.proofs.lemmas.Grind.{common_steps}
use Rattle.vl_acts.specs.Acts.{act}
use Rattle.vl_acts.proofs.ActLaws.{act-If}
use Rattle.vl_calls.proofs.calls.+in_stmt.Goals as goal

pub in_stmt-returns-in_ok-all-in-If-2 : goal.in_stmt-returns-in_ok-all-in-If-2
in_stmt-returns-in_ok-all-in-If-2 t c =
    let e = ap act c.in-If.is ∙ act-If c.in-If.test c.in-If.yes c.in-If.no in
    first_of (search rules, grind (arith, common_steps))
