use Rattle.value_domain.proofs.KeepLaws.{keeps_trans}
use Rattle.stmt_exec.proofs.GuardLaws as l
use Rattle.stmt_exec.proofs.choices.first_of.Goals as goal

pub loop-at-preserved : goal.loop-at-preserved
loop-at-preserved g c =
    let m = g.D.Domain.meaning in
    let i = c.loop-at.invariant in
    let k = c.narrowed.ensures.kept in
    let n = c.narrowed-in-loop-at.ensures.kept in
    let dn = c.loop-at.domain in
    let d1 = c.narrowed.new.domain in
    let d2 = c.narrowed-in-loop-at.new.domain in
    record {
      kept = keeps_trans m c.args.domain.now dn d2 i.kept (keeps_trans m dn d1 d2 k n);
      are = l.more_guards m dn d1 d2 c.loop-at.guards.items c.push.new.self.items c.in_ok-on.on k n i.are c.in_ok-on.ensures.made.0 c.in_ok-push.ensures.items;
      left_is = c.in_ok-off.ensures.made.0;
      rest = λ v. l.first_step m c.args.domain.now dn d1 d2 c.args.guard.now c.loop-at.left c.args.tests.now c.loop-at.at c.index-tests-at.result c.index-tests-at-in-loop-at.result
          c.loop-at.guards.items c.push.new.self.items c.in_ok-on.on c.in_ok-off.off c.loop-at-test.true c.requires.tests_are c.index-tests-at.is c.index-tests-at-in-loop-at.is i.kept k n i.are i.left_is
          c.in_ok-on.ensures.made c.in_ok-off.ensures.made c.in_ok-push.ensures.items v (i.rest v);
    }

pub returns-clause-made : goal.returns-clause-made
returns-clause-made g c =
    l.firsts_end g.D.Domain.meaning c.args.domain.now c.loop-at.domain c.args.guard.now c.loop-at.left c.args.tests.now c.loop-at.at c.loop-at.guards.items c.push-2.new.self.items
    c.loop-at-test.false c.loop-at.invariant.are c.loop-at.invariant.left_is c.loop-at.invariant.rest c.in_ok-push-2.ensures.items
