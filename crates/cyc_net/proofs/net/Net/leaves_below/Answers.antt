use Rattle.std.proofs.Common.{false, arith, sym, subst, ◌∙◌}
use Rattle.cyc_net.specs.declared.node.Node.TheVariants.{Const}
use Rattle.cyc_net.specs.Nets.{LeavesBelow}
use Rattle.cyc_net.proofs.NetLaws.{below_on, below_rest, below_none, below_end}
use Rattle.cyc_net.proofs.net.Net.leaves_below.Goals as goal

pub loop-at-preserved : goal.loop-at-preserved
loop-at-preserved c =
    let nodes = c.as_slice-nodes.result.now in
    record {
      to = below_on c.args.count nodes c.loop-at.at (Const false) (omega arith) c.loop-at.invariant.to (c.leaf_below.ensures.below c.if-not-leaf_below.false);
      from = below_rest c.args.count nodes c.loop-at.at (Const false) (omega arith) c.loop-at.invariant.from;
    }

pub returns-then-not-leaf_below-clause-above : goal.returns-then-not-leaf_below-clause-above
returns-then-not-leaf_below-clause-above c = λ e all.
    below_none c.args.count c.as_slice-nodes.result.now c.loop-at.at (Const false) (omega arith) c.loop-at.invariant.from (c.leaf_below.ensures.above c.if-not-leaf_below.true)
    (subst (LeavesBelow c.args.count) (sym (c.as_slice-nodes.ensures.value ∙ c.self.view_is)) all)

pub returns-clause-below : goal.returns-clause-below
returns-clause-below c = λ e.
    subst (LeavesBelow c.args.count) (c.as_slice-nodes.ensures.value ∙ c.self.view_is) (c.loop-at.invariant.to (below_end c.args.count c.as_slice-nodes.result.now c.loop-at.at (omega arith)))
