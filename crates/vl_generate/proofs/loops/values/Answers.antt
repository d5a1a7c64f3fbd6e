use Rattle.std.proofs.Common.{rules, arith}
use Rattle.std.proofs.lemmas.Grind.{common_steps}
use Rattle.vl_generate.specs.Turns.{values, with_front, goes_on, stepped}
use Rattle.vl_names.proofs.Turns.{one_more, no_more}
use Rattle.vl_generate.proofs.TurnLaws.{at_start}
use Rattle.vl_generate.proofs.loops.values.Goals as goal

pub loop-turn-init : goal.loop-turn-init
loop-turn-init g c = at_start (λ n. values n (goes_on (g.S.Constants.meaning c.args.scope.now) c.args.head.now c.args.entry.now) (stepped (g.S.Constants.meaning c.args.scope.now) c.args.head.now c.args.entry.now) c.args.first) c.args.limit c.new-all.result c.new-all.ensures

pub returns-then-not-branch : goal.returns-then-not-branch
unfolding values
returns-then-not-branch g c =
    let e = one_more (λ n. with_front c.loop-turn.all (values n (goes_on (g.S.Constants.meaning c.args.scope.now) c.args.head.now c.args.entry.now) (stepped (g.S.Constants.meaning c.args.scope.now) c.args.head.now c.args.entry.now) c.loop-turn.value)) _ c.loop-turn.turn c.loop-turn-test.true c.loop-turn.invariant in
    first_of (search rules, grind (arith, common_steps))

pub returns-in_err-goes_on : goal.returns-in_err-goes_on
unfolding values
returns-in_err-goes_on g c =
    let e = one_more (λ n. with_front c.loop-turn.all (values n (goes_on (g.S.Constants.meaning c.args.scope.now) c.args.head.now c.args.entry.now) (stepped (g.S.Constants.meaning c.args.scope.now) c.args.head.now c.args.entry.now) c.loop-turn.value)) _ c.loop-turn.turn c.loop-turn-test.true c.loop-turn.invariant in
    first_of (search rules, grind (arith, common_steps))

pub returns-in_err-next : goal.returns-in_err-next
unfolding values
returns-in_err-next g c =
    let e = one_more (λ n. with_front c.loop-turn.all (values n (goes_on (g.S.Constants.meaning c.args.scope.now) c.args.head.now c.args.entry.now) (stepped (g.S.Constants.meaning c.args.scope.now) c.args.head.now c.args.entry.now) c.loop-turn.value)) _ c.loop-turn.turn c.loop-turn-test.true c.loop-turn.invariant in
    first_of (search rules, grind (arith, common_steps))

pub loop-turn-preserved : goal.loop-turn-preserved
unfolding values
loop-turn-preserved g c =
    let e = one_more (λ n. with_front c.loop-turn.all (values n (goes_on (g.S.Constants.meaning c.args.scope.now) c.args.head.now c.args.entry.now) (stepped (g.S.Constants.meaning c.args.scope.now) c.args.head.now c.args.entry.now) c.loop-turn.value)) _ c.loop-turn.turn c.loop-turn-test.true c.loop-turn.invariant in
    first_of (search rules, grind (arith, common_steps))

pub returns : goal.returns
unfolding values
returns g c =
    let e = no_more (λ n. with_front c.loop-turn.all (values n (goes_on (g.S.Constants.meaning c.args.scope.now) c.args.head.now c.args.entry.now) (stepped (g.S.Constants.meaning c.args.scope.now) c.args.head.now c.args.entry.now) c.loop-turn.value)) _ c.loop-turn.turn c.loop-turn-test.false c.loop-turn.invariant in
    first_of (search rules, grind (arith, common_steps))

pub returns-then-not-branch-2 : goal.returns-then-not-branch-2
unfolding values
returns-then-not-branch-2 g c =
    let e = no_more (λ n. with_front c.loop-turn.all (values n (goes_on (g.S.Constants.meaning c.args.scope.now) c.args.head.now c.args.entry.now) (stepped (g.S.Constants.meaning c.args.scope.now) c.args.head.now c.args.entry.now) c.loop-turn.value)) _ c.loop-turn.turn c.loop-turn-test.false c.loop-turn.invariant in
    first_of (search rules, grind (arith, common_steps))

pub returns-in_err-goes_on-2 : goal.returns-in_err-goes_on-2
unfolding values
returns-in_err-goes_on-2 g c =
    let e = no_more (λ n. with_front c.loop-turn.all (values n (goes_on (g.S.Constants.meaning c.args.scope.now) c.args.head.now c.args.entry.now) (stepped (g.S.Constants.meaning c.args.scope.now) c.args.head.now c.args.entry.now) c.loop-turn.value)) _ c.loop-turn.turn c.loop-turn-test.false c.loop-turn.invariant in
    first_of (search rules, grind (arith, common_steps))
