use Rattle.std.proofs.Common.{◌≡◌, drop, map}
use Rattle.vl_names.specs.Names.{listed}
use Rattle.vl_calls.specs.Reaching.{with_known}
use Rattle.vl_calls.proofs.circles.with_known.Given as goal

abbrev pub invariant-loop-call : goal.invariant-loop-call
invariant-loop-call l = with_known (listed l.names) (listed l.all) (map (λ n. n.now) (drop l.call-index l.calls)) ≡ with_known (listed l.names) (listed l.fn.before) (map (λ n. n.now) l.calls)
