use Rattle.std.proofs.Common.{◌≤◌, length}
use Rattle.conncheck.proofs.words.wrong_in.Given as goal

abbrev pub invariant-options : goal.invariant-options
invariant-options l = length l.rest ≤ length l.words

abbrev pub decreases-options : goal.decreases-options
decreases-options l = length l.rest
