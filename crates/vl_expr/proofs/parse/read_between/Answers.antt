use Rattle.std.proofs.Common.{List, Bor, arith}
use Rattle.vl_tree.specs.declared.expressions.Expr.{Expr}
use Rattle.vl_tree.specs.declared.tokens.Token.{Token}
use Rattle.vl_grammar.proofs.Longest.{front_read, front_left}
use Rattle.vl_expr.proofs.Parsed.{error_none}
use Rattle.vl_expr.proofs.parse.read_between.Goals as goal

pub returns-then-rest-eq0-clause-found : goal.returns-then-rest-eq0-clause-found
returns-then-rest-eq0-clause-found c =
    front_read c.args.tokens.now c.args.at c.args.end c.in-Ok.found c.in-Ok.rest.now c.requires.order c.requires.within (omega arith) c.in-Ok.ensures

pub returns-in-Ok-clause-none : goal.returns-in-Ok-clause-none
returns-in-Ok-clause-none c = λ e t d. front_left c.args.tokens.now c.args.at c.args.end c.in-Ok.found c.in-Ok.rest.now (omega arith) c.in-Ok.ensures t d

pub returns-clause-none : goal.returns-clause-none
returns-clause-none c =
    λ e t d. error_none (λ (x : Expr × Bor (List Token)). (x.0, x.1.now)) c.args.tokens.now c.args.at c.args.end c.in-Err.error c.in-Err.ensures e t d
