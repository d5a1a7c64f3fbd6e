use Rattle.std.proofs.Common.{List, Bor, arith}
use Rattle.vl_tree.specs.declared.expressions.Expr.{Expr}
use Rattle.vl_tree.specs.declared.tokens.Token.{Token}
use Rattle.vl_expr.proofs.Parsed.{given_list, only_list}
use Rattle.vl_expr.proofs.grammar.read_list.Goals as goal

pub returns-clause-spelled : goal.returns-clause-spelled
returns-clause-spelled c = given_list (λ (x : (List Expr) × Bor (List Token)). (x.0, x.1.now)) c.args.tokens.now _ c.list.result c.list.ensures

pub returns-clause-only : goal.returns-clause-only
returns-clause-only c = only_list (λ (x : (List Expr) × Bor (List Token)). (x.0, x.1.now)) c.args.tokens.now _ c.list.result (omega arith) c.list.ensures
