use Rattle.std.proofs.Common.{refl, arith}
use Rattle.cyc_net.specs.Nets.{value}
use Rattle.cyc_net.proofs.NetLaws.{Gated-refl, Gated-trans}
use Rattle.net_ops.specs.Words.{gate_of}
use Rattle.net_ops.proofs.FoldLaws as f
use Rattle.net_ops.proofs.words.fold_all.Goals as goal

pub loop-at-init : goal.loop-at-init
loop-at-init c = record { kept = Gated-refl c.args.net.now; done = record { within = c.requires.start; worth = λ v. refl } }

pub loop-at-preserved : goal.loop-at-preserved
loop-at-preserved c =
    let old = c.args.net.now in let inv = c.loop-at.invariant in
    record {
      kept = Gated-trans old c.loop-at.net c.join_gate.new.net inv.kept c.join_gate.ensures.kept;
      done = f.folded_more (gate_of c.args.kind) old c.loop-at.net c.join_gate.new.net c.args.a.now c.loop-at.at c.loop-at.so_far _ _ (λ v. value old v c.args.start) c.requires.are inv.kept (omega arith) inv.done c.in_ok-so_far.ensures.made;
    }

pub returns-clause-made : goal.returns-clause-made
returns-clause-made c =
    let old = c.args.net.now in
    f.folded_end (gate_of c.args.kind) old c.loop-at.net c.args.a.now c.loop-at.at c.loop-at.so_far (λ v. value old v c.args.start) (omega arith) c.loop-at.invariant.done
