use Rattle.std.proofs.Common.{refl, arith}
use Rattle.vl_grammar.proofs.Longest.{longest_by}
use Rattle.vl_expr.proofs.Parsed.{one_end_less, no_end_left}
use Rattle.vl_expr.proofs.parse.seek.Goals as goal

pub returns-in-Ok-clause-found : goal.returns-in-Ok-clause-found
returns-in-Ok-clause-found c = longest_by c.args.tokens.now c.args.at c.loop-end.end c.in-Ok.found c.in-Ok.ensures.found c.loop-end.invariant.0

pub loop-end-preserved : goal.loop-end-preserved
loop-end-preserved c =
    let none = rw c.in-Err-Refused.field-0-is at c.in-Err-Refused.ensures in
    (one_end_less c.args.tokens.now c.args.at c.loop-end.end c.loop-end.invariant.0 (none.none refl), omega (arith, c.loop-end.invariant.1))

pub returns-clause-none : goal.returns-clause-none
returns-clause-none c = λ e. no_end_left c.args.tokens.now c.args.at c.loop-end.end c.loop-end.invariant.0 c.loop-end-test.false
