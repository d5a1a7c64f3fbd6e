use Rattle.std.proofs.Common.{rules, arith}
use Rattle.std.proofs.lemmas.Grind.{common_steps}
use Rattle.vl_grammar.specs.Read.{expr, list_from}
use Rattle.vl_expr.proofs.Turns.{one_more, no_more}
use Rattle.vl_expr.proofs.grammar.Grammar.list_after.Goals as goal

pub returns-then-not-same_word : goal.returns-then-not-same_word
unfolding list_from
returns-then-not-same_word g c =
    let e = one_more (λ n. list_from (expr c.args.self.now.depth) n c.loop-turn.found c.loop-turn.rest.now) _ c.loop-turn._turn c.loop-turn-test.true c.loop-turn.invariant in
    first_of (search rules, grind (arith, common_steps))

pub returns-in_err-item : goal.returns-in_err-item
unfolding list_from
returns-in_err-item g c =
    let e = one_more (λ n. list_from (expr c.args.self.now.depth) n c.loop-turn.found c.loop-turn.rest.now) _ c.loop-turn._turn c.loop-turn-test.true c.loop-turn.invariant in
    first_of (search rules, grind (arith, common_steps))

pub loop-turn-preserved : goal.loop-turn-preserved
unfolding list_from
loop-turn-preserved g c =
    let e = one_more (λ n. list_from (expr c.args.self.now.depth) n c.loop-turn.found c.loop-turn.rest.now) _ c.loop-turn._turn c.loop-turn-test.true c.loop-turn.invariant in
    first_of (search rules, grind (arith, common_steps))

pub returns : goal.returns
unfolding list_from
returns g c =
    let e = no_more (λ n. list_from (expr c.args.self.now.depth) n c.loop-turn.found c.loop-turn.rest.now) _ c.loop-turn._turn c.loop-turn-test.false c.loop-turn.invariant in
    first_of (search rules, grind (arith, common_steps))
