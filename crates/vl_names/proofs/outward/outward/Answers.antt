use Rattle.std.proofs.Common.{rules, arith, length}
use Rattle.std.proofs.lemmas.Grind.{common_steps}
use Rattle.vl_names.specs.Outward.{outward, all}
use Rattle.vl_names.proofs.Turns.{one_more, no_more}
use Rattle.vl_names.proofs.outward.outward.Goals as goal

pub returns-in-None : goal.returns-in-None
unfolding outward
returns-in-None c =
    let e = one_more (λ n. outward n c.args.name.now (all c.args.scopes.now) c.loop-turn.at) _ c.loop-turn.turn c.loop-turn-test.true c.loop-turn.invariant in
    first_of (search rules, grind (arith, common_steps))

pub returns-then-is_some : goal.returns-then-is_some
unfolding outward
returns-then-is_some c =
    let e = one_more (λ n. outward n c.args.name.now (all c.args.scopes.now) c.loop-turn.at) _ c.loop-turn.turn c.loop-turn-test.true c.loop-turn.invariant in
    first_of (search rules, grind (arith, common_steps))

pub loop-turn-preserved : goal.loop-turn-preserved
unfolding outward
loop-turn-preserved c =
    let e = one_more (λ n. outward n c.args.name.now (all c.args.scopes.now) c.loop-turn.at) _ c.loop-turn.turn c.loop-turn-test.true c.loop-turn.invariant in
    first_of (search rules, grind (arith, common_steps))

pub returns : goal.returns
unfolding outward
returns c =
    let e = no_more (λ n. outward n c.args.name.now (all c.args.scopes.now) c.loop-turn.at) _ c.loop-turn.turn c.loop-turn-test.false c.loop-turn.invariant in
    first_of (search rules, grind (arith, common_steps))
