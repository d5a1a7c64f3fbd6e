use Rattle.std.proofs.Common.{◌≡◌, suc, ◌-◌, ap, arith}
use Rattle.vl_grammar.specs.Read.{expr}
use Rattle.vl_expr.proofs.Turns.{deeper}
use Rattle.vl_expr.proofs.grammar.+expr.Goals as goal

pub returns-then-depth-eq0 : goal.returns-then-depth-eq0
unfolding expr
returns-then-depth-eq0 t c = let none : c.args.depth ≡ 0 = omega arith in ap (λ n. expr n c.args.least c.args.tokens.now) none

pub returns-then-least-eq0 : goal.returns-then-least-eq0
unfolding expr
returns-then-least-eq0 t c =
    let none : c.args.least ≡ 0 = omega arith in
    rw (none, deeper (λ n. expr n 0 c.args.tokens.now) c.args.depth (omega arith)) c.any.ensures

pub returns-else-least-eq0 : goal.returns-else-least-eq0
unfolding expr
returns-else-least-eq0 t c =
    let some : c.args.least ≡ suc (c.args.least - 1) = omega arith in
    rw (deeper (λ n. expr n c.args.least c.args.tokens.now) c.args.depth (omega arith)) (rw some (rw some at c.joined.ensures))
