use Rattle.std.proofs.Common.{◌≡◌, ℕ, Bool, arith, List, subst}
use Rattle.cyc_net.specs.Nets.{value, gate_value}
use Rattle.unroller.specs.Tables.{read_node}
use Rattle.unroller.proofs.StepLaws.{copying_more}
use Rattle.unroller.proofs.unrolling.copy_net.Goals as goal

pub loop-at-preserved : goal.loop-at-preserved
loop-at-preserved c =
    copying_more c.args.cycle.now c.args.net.now c.loop-at.net c.copy_node.new.net c.args.sources.now c.loop-at.copies.items c.push.new.self.items c.loop-at.at c.in_ok-copy.copy c.node.result c.node.result
    c.len-at-end.ensures.reads (omega arith) c.node.ensures.value c.node.ensures.reads c.requires c.loop-at.invariant c.copy_node.ensures.kept c.in_ok-copy.ensures.within (subst (λ (xs : List ℕ). (w : ℕ → Bool) → value c.copy_node.new.net w c.in_ok-copy.copy ≡ gate_value (λ l. value c.loop-at.net w (read_node c.args.sources.now l)) (λ k. value c.loop-at.net w (read_node xs k)) c.node.result) c.as_slice.ensures.value c.in_ok-copy.ensures.worth) c.in_ok-copy.ensures.has c.in_ok-push.ensures.items
