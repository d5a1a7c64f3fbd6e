use Rattle.std.proofs.Common.{◌≡◌, map, take}
use Rattle.vl_lex.proofs.state.body_tokens.Given as goal

abbrev pub invariant-loop-item : goal.invariant-loop-item
invariant-loop-item l = l.tokens ≡ map (λ t. t.token) (take l.item-index l.lined)
