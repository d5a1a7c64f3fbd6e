use Rattle.std.proofs.Common.{◌≡◌, drop, length, option_map, take}
use Rattle.command_words.specs.Parts as spec
use Rattle.command_words.proofs.CutLaws.{with_back}
use Rattle.command_words.proofs.cut.cut_last.Given as goal

abbrev pub invariant-bytes : goal.invariant-bytes
invariant-bytes l = record {
  front : l.left ≡ take (length l.left) l.text;
  cut : spec.cut_last l.at l.text ≡ option_map (with_back (drop (length l.left) l.text)) (spec.cut_last l.at l.left);
}

abbrev pub decreases-bytes : goal.decreases-bytes
decreases-bytes l = length l.left
