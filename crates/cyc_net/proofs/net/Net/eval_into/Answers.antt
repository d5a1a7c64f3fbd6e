use Rattle.std.proofs.Common.{◌≡◌, ◌+◌, [], Bool, false, length, take, get_or, set, arith, sym, subst, ◌∙◌, length-set}
use Rattle.cyc_net.specs.declared.node.Node.{Node}
use Rattle.cyc_net.specs.declared.node.Node.TheVariants.{Const}
use Rattle.cyc_net.specs.Nets.{IsNet, LeavesBelow, bit_at, run}
use Rattle.cyc_net.proofs.NetLaws.{reads_at, reads_more, leaf_at, run_more}
use Rattle.std.proofs.lemmas.List.{get_or_default}
use Rattle.cyc_net.proofs.net.Net.eval_into.Goals as goal

pub gate-value-requires-clause-leaf : goal.gate-value-requires-clause-leaf
gate-value-requires-clause-leaf c =
    let same = c.as_slice-nodes.ensures.value ∙ c.self.view_is in
    leaf_at (length c.args.leaves.now) c.as_slice-nodes.result.now c.loop-at.at (Const false)
    (subst (LeavesBelow (length c.args.leaves.now)) (sym same) c.requires.leaves) (omega arith)

pub gate-value-requires-clause-reads : goal.gate-value-requires-clause-reads
gate-value-requires-clause-reads c =
    let net : IsNet c.as_slice-nodes.result.now = subst IsNet (sym c.as_slice-nodes.ensures.value) c.self.invariant in
    reads_more c.loop-at.at (length c.loop-at.out) _ (let s = c.loop-at.invariant.size in omega arith)
    (reads_at c.as_slice-nodes.result.now c.loop-at.at (Const false) net (omega arith))

pub loop-at-preserved : goal.loop-at-preserved
loop-at-preserved c =
    let nodes = c.as_slice-nodes.result.now in
    let out = c.loop-at.out in
    let at = c.loop-at.at in
    let v = bit_at c.args.leaves.now in
    let net : IsNet nodes = subst IsNet (sym c.as_slice-nodes.ensures.value) c.self.invariant in
    let x : Node = get_or nodes at (Const false) in
    let is : x ≡ get_or nodes at x = get_or_default nodes at (Const false) x (omega arith) in
    record {
      done = subst (λ (b : Bool). take (at + 1) (set out at b) ≡ run v [] (take (at + 1) nodes)) (sym c.gate-value.ensures)
          (run_more v nodes out at x (omega arith) (let s = c.loop-at.invariant.size in omega arith) is (reads_at nodes at (Const false) net (omega arith)) c.loop-at.invariant.done);
      size = length-set out at c.gate-value.result ∙ c.loop-at.invariant.size;
    }
