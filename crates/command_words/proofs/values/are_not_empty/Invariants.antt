use Rattle.std.proofs.Common.{◌≡◌, drop, map}
use Rattle.std.specs.List.{list_all}
use Rattle.command_words.specs.Values as spec
use Rattle.command_words.proofs.values.are_not_empty.Given as goal

abbrev pub invariant-loop-part : goal.invariant-loop-part
invariant-loop-part l = list_all spec.is_some_text (map (λ p. p.now) (drop l.part-index l.parts)) ≡ list_all spec.is_some_text (map (λ p. p.now) l.parts)
