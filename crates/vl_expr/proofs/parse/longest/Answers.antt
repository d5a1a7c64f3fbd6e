use Rattle.std.proofs.Common.{subst, arith}
use Rattle.vl_grammar.specs.Spells.{Ends}
use Rattle.vl_grammar.proofs.Longest.{longest_read}
use Rattle.vl_expr.proofs.Parsed.{closes_ends, none_behind}
use Rattle.vl_expr.proofs.parse.longest.Goals as goal

pub returns-then-at-tokens-clause-none : goal.returns-then-at-tokens-clause-none
returns-then-at-tokens-clause-none c = λ e. none_behind c.args.tokens.now c.args.at (omega arith)

pub overflow_sub-result : goal.overflow_sub-result
overflow_sub-result c =
    (longest_read c.args.tokens.now c.args.at c.in-Ok.found c.in-Ok.behind.now (omega arith) c.in-Ok.ensures
    (subst (λ w. Ends w) c.next_word.ensures (closes_ends c.next_word.result c.ends.result c.ends.ensures c.if-ends.true))).within

pub returns-then-ends-clause-found : goal.returns-then-ends-clause-found
returns-then-ends-clause-found c =
    (longest_read c.args.tokens.now c.args.at c.in-Ok.found c.in-Ok.behind.now (omega arith) c.in-Ok.ensures
    (subst (λ w. Ends w) c.next_word.ensures (closes_ends c.next_word.result c.ends.result c.ends.ensures c.if-ends.true))).longest
