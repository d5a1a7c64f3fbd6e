use Rattle.std.proofs.Common.{◌≡◌, ap, arith}
use Rattle.vl_rules.specs.Form.{lval}
use Rattle.vl_rules.specs.Modules.{read_to, body}
use Rattle.vl_expr.proofs.Turns.{deeper}
use Rattle.vl_parse_parts.proofs.left.+nested_left.Goals as goal

pub returns-then-depth-eq0 : goal.returns-then-depth-eq0
unfolding read_to
returns-then-depth-eq0 t c = let none : c.args.depth ≡ 0 = omega arith in ap (λ n. read_to n lval c.args.tokens.now) none

pub returns : goal.returns
unfolding read_to body
returns t c = rw (deeper (λ n. read_to n lval c.args.tokens.now) c.args.depth (omega arith)) c.left_side.ensures
