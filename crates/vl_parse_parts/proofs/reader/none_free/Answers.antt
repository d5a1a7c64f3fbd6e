use Rattle.std.proofs.Common.{rules, arith}
use Rattle.std.proofs.lemmas.Grind.{common_steps}
use Rattle.vl_rules.specs.Form.{none_free}
use Rattle.vl_expr.proofs.Turns.{one_more, no_more}
use Rattle.vl_parse_parts.proofs.reader.none_free.Goals as goal

pub returns-in-empty : goal.returns-in-empty
returns-in-empty c =
    let e = one_more (λ n. none_free n c.loop-turn.left.now) _ c.loop-turn._turn c.loop-turn-test.true c.loop-turn.invariant in
    first_of (search rules, grind (arith, common_steps))

pub returns-then-same_word : goal.returns-then-same_word
returns-then-same_word c =
    let e = one_more (λ n. none_free n c.loop-turn.left.now) _ c.loop-turn._turn c.loop-turn-test.true c.loop-turn.invariant in
    first_of (search rules, grind (arith, common_steps))

pub loop-turn-preserved : goal.loop-turn-preserved
loop-turn-preserved c =
    let e = one_more (λ n. none_free n c.loop-turn.left.now) _ c.loop-turn._turn c.loop-turn-test.true c.loop-turn.invariant in
    first_of (search rules, grind (arith, common_steps))

pub returns : goal.returns
returns c =
    let e = no_more (λ n. none_free n c.loop-turn.left.now) _ c.loop-turn._turn c.loop-turn-test.false c.loop-turn.invariant in
    first_of (search rules, grind (arith, common_steps))
