use Rattle.std.proofs.Common.{◌≡◌, ◌-◌, []}
use Rattle.vl_names.specs.Names.{listed}
use Rattle.vl_calls.specs.Seen.{callers}
use Rattle.vl_calls.specs.Reaching.{spread, with_known, calls_of}
use Rattle.vl_calls.proofs.circles.reached.Given as goal

abbrev pub invariant-loop-at : goal.invariant-loop-at
invariant-loop-at l = spread l.limit (callers l.all) 0 (with_known (listed l.all.names) [] (calls_of (callers l.all) l.name)) ≡ spread (l.limit - l.at) (callers l.all) l.at (listed l.seen)
