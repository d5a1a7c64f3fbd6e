use Rattle.std.proofs.Common.{rules, arith, length}
use Rattle.std.proofs.lemmas.Grind.{common_steps}
use Rattle.vl_names.specs.Outward.{all}
use Rattle.vl_signals.specs.Sites.{site_from}
use Rattle.vl_signals.proofs.Turns.{one_more, no_more}
use Rattle.vl_signals.proofs.sites.site_of.Goals as goal

pub returns-in-Ended : goal.returns-in-Ended
unfolding site_from
returns-in-Ended c =
    let e = one_more (λ n. site_from n c.args.name.now (all c.args.scopes.now) c.loop-turn.at) _ c.loop-turn.turn c.loop-turn-test.true c.loop-turn.invariant in
    first_of (search rules, grind (arith, common_steps))

pub loop-turn-preserved : goal.loop-turn-preserved
unfolding site_from
loop-turn-preserved c =
    let e = one_more (λ n. site_from n c.args.name.now (all c.args.scopes.now) c.loop-turn.at) _ c.loop-turn.turn c.loop-turn-test.true c.loop-turn.invariant in
    first_of (search rules, grind (arith, common_steps))

pub returns : goal.returns
unfolding site_from
returns c =
    let e = no_more (λ n. site_from n c.args.name.now (all c.args.scopes.now) c.loop-turn.at) _ c.loop-turn.turn c.loop-turn-test.false c.loop-turn.invariant in
    first_of (search rules, grind (arith, common_steps))
