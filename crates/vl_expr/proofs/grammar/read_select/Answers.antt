use Rattle.std.proofs.Common.{List, Bor, arith}
use Rattle.vl_tree.specs.declared.expressions.Select.{Select}
use Rattle.vl_tree.specs.declared.tokens.Token.{Token}
use Rattle.vl_expr.proofs.Parsed.{given_select, only_select}
use Rattle.vl_expr.proofs.grammar.read_select.Goals as goal

pub returns-clause-spelled : goal.returns-clause-spelled
returns-clause-spelled c = given_select (λ (x : Select × Bor (List Token)). (x.0, x.1.now)) c.args.tokens.now _ c.select.result c.select.ensures

pub returns-clause-only : goal.returns-clause-only
returns-clause-only c = only_select (λ (x : Select × Bor (List Token)). (x.0, x.1.now)) c.args.tokens.now _ c.select.result (omega arith) c.select.ensures
