use Rattle.std.proofs.Common.{◌≡◌, ◌-◌}
use Rattle.vl_grammar.specs.Read.{expr, joined, climb}
use Rattle.vl_expr.proofs.grammar.Grammar.joined.Given as goal

abbrev pub invariant-loop-turn : goal.invariant-loop-turn
invariant-loop-turn g l = joined (expr l.self.depth) l.least l.fn.tokens ≡ climb (expr l.self.depth) l.least (l._turn-end - l._turn) l.left l.rest
