use Rattle.std.proofs.Common.{◌≡◌, map, drop}
use Rattle.vl_lex.specs.Lexed.{view}
use Rattle.vl_lex.specs.Gate.{gate_view, kept_all}
use Rattle.vl_lex.proofs.gate.Gate.keep_all.Given as goal

abbrev pub invariant-loop-token : goal.invariant-loop-token
invariant-loop-token l = kept_all (map view (drop l.token-index l.tokens)) (gate_view l.self) ≡ kept_all (map view l.tokens) (gate_view l.initial.self)
