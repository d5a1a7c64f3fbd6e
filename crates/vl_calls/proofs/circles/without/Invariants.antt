use Rattle.std.proofs.Common.{◌≡◌, drop, map, []}
use Rattle.vl_names.specs.Names.{listed}
use Rattle.vl_calls.specs.Callers.{without}
use Rattle.vl_calls.proofs.circles.without.Given as goal

abbrev pub invariant-loop-name : goal.invariant-loop-name
invariant-loop-name l = without (listed l.own) (listed l.all) (map (λ n. n.now) (drop l.name-index l.names)) ≡ without (listed l.own) [] (map (λ n. n.now) l.names)
