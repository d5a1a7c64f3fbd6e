use Rattle.std.proofs.Common.{rules, arith}
use Rattle.std.proofs.lemmas.Grind.{common_steps}
use Rattle.vl_names.specs.Names.{listed}
use Rattle.vl_names.proofs.Turns.{one_more, no_more}
use Rattle.vl_calls.specs.Reaching.{spread}
use Rattle.vl_calls.specs.Seen.{callers}
use Rattle.vl_calls.proofs.circles.reached.Goals as goal

pub returns-in-None : goal.returns-in-None
unfolding spread
returns-in-None c =
    let e = one_more (λ n. spread n (callers c.args.all.now) c.loop-at.at (listed c.loop-at.seen)) _ c.loop-at.at c.loop-at-test.true c.loop-at.invariant in
    first_of (search rules, grind (arith, common_steps))

pub loop-at-preserved : goal.loop-at-preserved
unfolding spread
loop-at-preserved c =
    let e = one_more (λ n. spread n (callers c.args.all.now) c.loop-at.at (listed c.loop-at.seen)) _ c.loop-at.at c.loop-at-test.true c.loop-at.invariant in
    first_of (search rules, grind (arith, common_steps))

pub returns : goal.returns
unfolding spread
returns c =
    let e = no_more (λ n. spread n (callers c.args.all.now) c.loop-at.at (listed c.loop-at.seen)) _ c.loop-at.at c.loop-at-test.false c.loop-at.invariant in
    first_of (search rules, grind (arith, common_steps))
