use Rattle.std.proofs.Common.{rules, arith}
use Rattle.std.proofs.lemmas.Grind.{common_steps}
use Rattle.vl_rules.specs.Form.{row, rule_begins, stmt, starts, reads}
use Rattle.vl_rules.specs.Modules.{read_to}
use Rattle.vl_rules.specs.Statements.{arm}
use Rattle.vl_expr.proofs.Turns.{one_more}
use Rattle.vl_parse_statements.proofs.statements.+statement.Goals as goal

pub body-loop-turn-preserved : goal.body-loop-turn-preserved
body-loop-turn-preserved t c =
    let e = one_more (λ n. row (rule_begins stmt) (read_to c.args.reader.now.depth stmt) n c.loop-turn.found c.loop-turn.rest.now) _ c.loop-turn._turn c.loop-turn-test.true c.loop-turn.invariant in
    first_of (search rules, grind (arith, common_steps))

pub arm_row-loop-turn-preserved : goal.arm_row-loop-turn-preserved
arm_row-loop-turn-preserved t c =
    let e = one_more (λ n. row (starts (arm c.args.kind)) (reads (read_to c.args.reader.now.depth) (arm c.args.kind)) n c.loop-turn.found c.loop-turn.rest.now) _ c.loop-turn._turn c.loop-turn-test.true c.loop-turn.invariant in
    first_of (search rules, grind (arith, common_steps))
