use Rattle.std.proofs.Common.{◌≡◌, drop, map, []}
use Rattle.vl_names.specs.Names.{listed}
use Rattle.vl_calls.specs.Seen.{callers}
use Rattle.vl_calls.specs.Reaching.{circular_from}
use Rattle.vl_calls.proofs.circles.circular_from.Given as goal

abbrev pub invariant-loop-name : goal.invariant-loop-name
invariant-loop-name l = circular_from (callers l.all) (listed l.found) (map (λ n. n.now) (drop l.name-index l.names)) ≡ circular_from (callers l.all) [] (map (λ n. n.now) l.names)
