use Rattle.std.proofs.Common.{◌≡◌, ◌++◌, drop, map, option_map}
use Rattle.command_words.specs.Values as spec
use Rattle.command_words.proofs.values.pins_of.Given as goal

abbrev pub invariant-loop-part : goal.invariant-loop-part
invariant-loop-part l = spec.pins_of (map (λ p. p.now) l.parts) ≡ option_map (λ ps. l.pins ++ ps) (spec.pins_of (map (λ p. p.now) (drop l.part-index l.parts)))
