use Rattle.std.proofs.Common.{◌≡◌, drop, option_map, take}
use Rattle.command_words.specs.Parts as spec
use Rattle.command_words.proofs.CutLaws.{with_front}
use Rattle.command_words.proofs.cut.cut_first.Given as goal

abbrev pub invariant-loop-i : goal.invariant-loop-i
invariant-loop-i l = spec.cut_first l.at l.text ≡ option_map (with_front (take l.i l.text)) (spec.cut_first l.at (drop l.i l.text))
