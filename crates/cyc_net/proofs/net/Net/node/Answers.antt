use Rattle.std.proofs.Common.{arith, sym, subst}
use Rattle.cyc_net.specs.Nets.{ReadsBelow}
use Rattle.cyc_net.proofs.NetLaws.{reads_at}
use Rattle.cyc_net.proofs.net.Net.node.Goals as goal

pub returns-clause-reads : goal.returns-clause-reads
returns-clause-reads c =
    subst (ReadsBelow c.args.at) (sym c.index.ensures)
    (reads_at c.self.inside.nodes.items c.args.at c.index.result.now c.self.invariant (let e = c.self.view_is in grind arith))
