use Rattle.std.proofs.Common.{rules, arith}
use Rattle.std.proofs.lemmas.Grind.{common_steps}
use Rattle.vl_rules.specs.Form.{row, rule_begins, item, starts, reads}
use Rattle.vl_rules.specs.Modules.{read_to}
use Rattle.vl_rules.specs.Generate.{item_arm}
use Rattle.vl_expr.proofs.Turns.{one_more}
use Rattle.vl_parse_items.proofs.items.+item.Goals as goal

pub module_items-loop-turn-preserved : goal.module_items-loop-turn-preserved
module_items-loop-turn-preserved t c =
    let e = one_more (λ n. row (rule_begins item) (read_to c.args.reader.now.depth item) n c.loop-turn.found c.loop-turn.rest.now) _ c.loop-turn._turn c.loop-turn-test.true c.loop-turn.invariant in
    first_of (search rules, grind (arith, common_steps))

pub arm_row-loop-turn-preserved : goal.arm_row-loop-turn-preserved
arm_row-loop-turn-preserved t c =
    let e = one_more (λ n. row (starts item_arm) (reads (read_to c.args.reader.now.depth) item_arm) n c.loop-turn.found c.loop-turn.rest.now) _ c.loop-turn._turn c.loop-turn-test.true c.loop-turn.invariant in
    first_of (search rules, grind (arith, common_steps))
