use Rattle.std.proofs.Common.{◌≡◌, [], ◌∷◌}
use Rattle.vl_lex.specs.Lexed.{view}
use Rattle.vl_lex.specs.Gate.{gate_view}
use Rattle.vl_lex.specs.Macros.{look, expanded}
use Rattle.vl_lex.specs.Calls.{calls_view, unwound, table_behind, turns_left}
use Rattle.vl_lex.proofs.expansion.expand.Given as goal

abbrev pub invariant-loop-inner : goal.invariant-loop-inner
invariant-loop-inner l = record {
  goes_on : unwound l.implicit (look l.macros) (calls_view l.calls.items) (gate_view l.gate) ≡ expanded l.levels (look l.fn.macros) l.implicit (view l.token ∷ []) (gate_view l.fn.gate);
  still : table_behind (look l.macros) (calls_view l.calls.items) ≡ look l.fn.macros;
}

abbrev pub decreases-loop-inner : goal.decreases-loop-inner
decreases-loop-inner l = turns_left (look l.macros) (calls_view l.calls.items)
