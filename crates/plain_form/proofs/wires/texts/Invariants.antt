use Rattle.std.proofs.Common.{◌≡◌, map, take}
use Rattle.plain_form.proofs.wires.texts.Given as goal

abbrev pub invariant-loop-token : goal.invariant-loop-token
invariant-loop-token l = map (λ w. w.now) l.texts.items ≡ map (λ t. t.text.now) (take l.token-index l.tokens)
