use Rattle.std.proofs.Common.{◌≤◌, ◌-◌, drop, length}
use Rattle.vl_parse.proofs.Turns.{Reads}
use Rattle.vl_parse.proofs.files.parse_files.Given as goal

abbrev pub invariant-loop-at : goal.invariant-loop-at
invariant-loop-at l = Reads l.fn.tokens l.modules (drop l.at l.all) × (l.at ≤ length l.all)

abbrev pub decreases-loop-at : goal.decreases-loop-at
decreases-loop-at l = length l.all - l.at
