use Rattle.std.proofs.Common.{List, Bor, arith}
use Rattle.vl_tree.specs.declared.expressions.Expr.{Expr}
use Rattle.vl_tree.specs.declared.tokens.Token.{Token}
use Rattle.vl_expr.proofs.Parsed.{given_spells, only_given}
use Rattle.vl_expr.proofs.parse.read_expr.Goals as goal

pub returns-clause-spelled : goal.returns-clause-spelled
returns-clause-spelled c = given_spells (λ (x : Expr × Bor (List Token)). (x.0, x.1.now)) c.args.tokens.now _ c.expr.result c.expr.ensures

pub returns-clause-only : goal.returns-clause-only
returns-clause-only c = only_given (λ (x : Expr × Bor (List Token)). (x.0, x.1.now)) c.args.tokens.now _ c.expr.result (omega arith) c.expr.ensures
