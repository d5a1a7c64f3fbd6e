use Rattle.std.proofs.Common.{◌≡◌, ◌-◌}
use Rattle.vl_grammar.specs.Read.{expr, list_after, list_from}
use Rattle.vl_expr.proofs.grammar.Grammar.list_after.Given as goal

abbrev pub invariant-loop-turn : goal.invariant-loop-turn
invariant-loop-turn g l = list_after (expr l.self.depth) l.fn.first l.tokens ≡ list_from (expr l.self.depth) (l._turn-end - l._turn) l.found l.rest
