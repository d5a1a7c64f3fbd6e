use Rattle.std.proofs.Common.{◌≡◌, map, take}
use Rattle.command_words.proofs.values.names_of.Given as goal

abbrev pub invariant-loop-part : goal.invariant-loop-part
invariant-loop-part l = l.names ≡ map (λ p. p.now) (take l.part-index l.parts)
