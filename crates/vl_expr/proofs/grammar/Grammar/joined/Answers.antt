use Rattle.std.proofs.Common.{rules, arith}
use Rattle.std.proofs.lemmas.Grind.{common_steps}
use Rattle.vl_grammar.specs.Read.{expr, climb}
use Rattle.vl_expr.proofs.Turns.{one_more, no_more}
use Rattle.vl_expr.proofs.grammar.Grammar.joined.Goals as goal

pub returns-then-tightness-least : goal.returns-then-tightness-least
unfolding climb
returns-then-tightness-least g c =
    let e = one_more (λ n. climb (expr c.args.self.now.depth) c.args.least n c.loop-turn.left c.loop-turn.rest.now) _ c.loop-turn._turn c.loop-turn-test.true c.loop-turn.invariant in
    first_of (search rules, grind (arith, common_steps))

pub returns-in_err-right : goal.returns-in_err-right
unfolding climb
returns-in_err-right g c =
    let e = one_more (λ n. climb (expr c.args.self.now.depth) c.args.least n c.loop-turn.left c.loop-turn.rest.now) _ c.loop-turn._turn c.loop-turn-test.true c.loop-turn.invariant in
    first_of (search rules, grind (arith, common_steps))

pub loop-turn-preserved : goal.loop-turn-preserved
unfolding climb
loop-turn-preserved g c =
    let e = one_more (λ n. climb (expr c.args.self.now.depth) c.args.least n c.loop-turn.left c.loop-turn.rest.now) _ c.loop-turn._turn c.loop-turn-test.true c.loop-turn.invariant in
    first_of (search rules, grind (arith, common_steps))

pub returns : goal.returns
unfolding climb
returns g c =
    let e = no_more (λ n. climb (expr c.args.self.now.depth) c.args.least n c.loop-turn.left c.loop-turn.rest.now) _ c.loop-turn._turn c.loop-turn-test.false c.loop-turn.invariant in
    first_of (search rules, grind (arith, common_steps))
