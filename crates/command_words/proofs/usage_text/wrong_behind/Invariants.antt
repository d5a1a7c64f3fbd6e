use Rattle.std.proofs.Common.{◌≤◌, length}
use Rattle.command_words.proofs.usage_text.wrong_behind.Given as goal

abbrev pub invariant-options : goal.invariant-options
invariant-options l = length l.rest ≤ length l.words

abbrev pub decreases-options : goal.decreases-options
decreases-options l = length l.rest
