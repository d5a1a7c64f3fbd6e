use Rattle.bits_core.specs.Places.{by_place}
use Rattle.net_ops.proofs.BuiltLaws.{Built}
use Rattle.net_ops.proofs.places.fill.Given as goal

abbrev pub invariant-loop-at : goal.invariant-loop-at
invariant-loop-at g l = Built l.net l.net l.out l.at (λ v. by_place l.len (g.P.NodeByPlace.bit l.places l.net v))
