use Rattle.std.proofs.Common.{◌-◌, ◌∙◌, sym, subst, map, get_or}
use Rattle.stmt_exec.specs.Aims.{IsTarget}
use Rattle.value_domain.proofs.KeepLaws.{keeps_trans}
use Rattle.stmt_exec.proofs.AimLaws as a
use Rattle.stmt_exec.proofs.aims.write_all.Goals as goal

pub loop-at-preserved : goal.loop-at-preserved
loop-at-preserved g c =
    let m = g.D.Domain.meaning in
    let ts = c.args.targets.now in
    let at = c.loop-at.at in
    let t = c.index-targets-at.result in
    let t2 = c.index-targets-at-in-loop-at.result in
    let i = c.loop-at.invariant in
    let less = a.left_less ts at t c.loop-at.left c.loop-at-test.true i.bits in
    record {
      kept = keeps_trans m c.args.domain.now c.loop-at.domain c.write_one.new.domain i.kept c.write_one.ensures.kept;
      are = c.write_one.ensures.are;
      wide = c.write_one.ensures.wide ∙ i.wide;
      bits = less;
      rest = λ v. a.rest_step m c.args.domain.now c.loop-at.domain c.write_one.new.domain c.args.guard.now ts at (c.loop-at.left - (get_or ts at t).length) t2 c.args.value.now c.loop-at.vectors c.write_one.new.vectors c.args.vectors.now
          (map m.width c.args.vectors.now) c.loop-at-test.true c.index-targets-at-in-loop-at.is c.requires.guard_is c.requires.value_is (subst (IsTarget m (map m.width c.args.vectors.now) c.args.domain.now) (sym c.index-targets-at-in-loop-at.is) (c.requires.targets_are at t2 c.loop-at-test.true)) i.kept less v (i.rest v) (c.in_ok-write_one.ensures.written v);
    }
