use Rattle.std.proofs.Common.{arith}
use Rattle.bits_core.specs.Places.{by_place}
use Rattle.cyc_net.proofs.NetLaws.{Gated-refl}
use Rattle.net_ops.proofs.BuiltLaws as b
use Rattle.net_ops.proofs.PlaceLaws as p
use Rattle.net_ops.proofs.places.fill.Goals as goal

pub loop-at-preserved : goal.loop-at-preserved
loop-at-preserved g c =
    let net = c.args.net.now in let bit = g.P.NodeByPlace.bit c.args.places.now net in
    b.Built-step net (λ v. by_place c.args.len (bit v)) net net c.loop-at.out _ c.loop-at.at c.node-node.result c.loop-at.invariant (Gated-refl net)
    (p.next_place net c.args.len bit c.loop-at.at c.node-node.result (omega arith) c.node-node.ensures)
    (λ v. let l = p.long_places net c.args.len bit v in omega arith)
    c.in_ok-push.ensures.ok

pub returns : goal.returns
returns g c =
    let net = c.args.net.now in let bit = g.P.NodeByPlace.bit c.args.places.now net in
    b.Built-end net (λ v. by_place c.args.len (bit v)) net c.loop-at.out c.loop-at.at c.args.len c.loop-at.invariant (omega arith)
    (λ v. let l = p.long_places net c.args.len bit v in omega arith)
