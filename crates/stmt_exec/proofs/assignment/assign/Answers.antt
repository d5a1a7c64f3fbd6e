use Rattle.std.proofs.lemmas.Result.{on_ok_weaker}
use Rattle.stmt_exec.proofs.WriteLaws as w
use Rattle.stmt_exec.proofs.assignment.assign.Goals as goal

pub returns-then-blocking-clause-done : goal.returns-then-blocking-clause-done
returns-then-blocking-clause-done g c =
    on_ok_weaker c.write_all.result (λ h v. w.assigned_blocking g.D.Domain.meaning g.met.D.Domain.as_wide c.args.domain.now c.write_all.new.domain c.args.guard.now c.args.value.now c.args.targets.now c.args.outer.now c.args.now.now c.args.next.now
    c.write_all.ensures.kept c.args.inside c.args.blocking c.if-blocking.true c.write_all.new.vectors c.requires.frame c.requires.targets_are v (h v)) c.write_all.ensures.written

pub returns-else-blocking-clause-like : goal.returns-else-blocking-clause-like
returns-else-blocking-clause-like g c =
    w.stored_like g.D.Domain.meaning g.met.D.Domain.as_wide c.args.domain.now c.write_all-else-blocking.new.domain c.args.guard.now c.args.value.now c.args.targets.now c.args.outer.now c.args.now.now c.args.next.now
    c.write_all-else-blocking.ensures.kept c.args.inside c.args.blocking c.if-blocking.false c.requires.kind c.write_all-else-blocking.new.vectors c.requires.frame c.write_all-else-blocking.ensures.are c.write_all-else-blocking.ensures.wide

pub returns-else-blocking-clause-done : goal.returns-else-blocking-clause-done
returns-else-blocking-clause-done g c =
    on_ok_weaker c.write_all-else-blocking.result (λ h v. w.assigned_stored g.D.Domain.meaning g.met.D.Domain.as_wide c.args.domain.now c.write_all-else-blocking.new.domain c.args.guard.now c.args.value.now c.args.targets.now c.args.outer.now c.args.now.now c.args.next.now
    c.write_all-else-blocking.ensures.kept c.args.inside c.args.blocking c.if-blocking.false c.requires.kind c.write_all-else-blocking.new.vectors c.requires.frame c.requires.targets_are v (h v)) c.write_all-else-blocking.ensures.written
