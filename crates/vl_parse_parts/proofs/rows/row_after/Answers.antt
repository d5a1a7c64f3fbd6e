use Rattle.std.proofs.Common.{rules, arith}
use Rattle.std.proofs.lemmas.Grind.{common_steps}
use Rattle.vl_rules.specs.Form.{row}
use Rattle.vl_expr.proofs.Turns.{one_more}
use Rattle.vl_parse_parts.proofs.rows.row_after.Goals as goal

pub loop-turn-preserved : goal.loop-turn-preserved
loop-turn-preserved g c =
    let e = one_more (λ n. row (g.P.Part.begin c.args.part.now) (g.P.Part.parser c.args.part.now) n c.loop-turn.found c.loop-turn.rest.now) _ c.loop-turn._turn c.loop-turn-test.true c.loop-turn.invariant in
    first_of (search rules, grind (arith, common_steps))
