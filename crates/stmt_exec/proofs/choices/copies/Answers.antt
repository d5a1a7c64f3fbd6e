use Rattle.value_domain.proofs.KeepLaws.{keeps_trans}
use Rattle.stmt_exec.proofs.GuardLaws as l
use Rattle.stmt_exec.proofs.choices.copies.Goals as goal

pub loop-at-preserved : goal.loop-at-preserved
loop-at-preserved g c = record {
  kept = keeps_trans g.D.Domain.meaning c.args.domain.now c.loop-at.domain c.copy_guard.new.domain c.loop-at.invariant.kept c.copy_guard.ensures.kept;
  made = l.copied_guard g.D.Domain.meaning c.args.domain.now c.loop-at.domain c.copy_guard.new.domain c.args.guard.now c.loop-at.at c.loop-at.guards.items c.push.new.self.items c.in_ok-one.one
      c.requires c.loop-at.invariant.kept c.copy_guard.ensures.kept c.loop-at.invariant.made c.in_ok-one.ensures.made c.in_ok-push.ensures.items;
}
