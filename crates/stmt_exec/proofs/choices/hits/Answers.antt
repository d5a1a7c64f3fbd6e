use Rattle.value_domain.proofs.KeepLaws.{keeps_trans}
use Rattle.stmt_exec.proofs.GuardLaws as l
use Rattle.stmt_exec.proofs.choices.hits.Goals as goal

pub any_hit-requires-clause-long : goal.any_hit-requires-clause-long
any_hit-requires-clause-long g c =
    l.arm_long g.D.Domain.meaning c.args.values.now c.args.arms.now c.loop-at.from c.loop-at.at c.index-arms-at.result c.as_slice.result.now c.loop-at-test.true c.as_slice.ensures c.loop-at.invariant.long

pub returns-in_err-hit-clause-kept : goal.returns-in_err-hit-clause-kept
returns-in_err-hit-clause-kept g c = keeps_trans g.D.Domain.meaning c.args.domain.now c.loop-at.domain c.any_hit.new.domain c.loop-at.invariant.kept c.any_hit.ensures.kept

pub returns-in_err-push-clause-kept : goal.returns-in_err-push-clause-kept
returns-in_err-push-clause-kept g c = keeps_trans g.D.Domain.meaning c.args.domain.now c.loop-at.domain c.any_hit.new.domain c.loop-at.invariant.kept c.any_hit.ensures.kept

pub loop-at-preserved : goal.loop-at-preserved
loop-at-preserved g c =
    let m = g.D.Domain.meaning in
    let i = c.loop-at.invariant in
    let d0 = c.args.domain.now in
    let dn = c.loop-at.domain in
    let d1 = c.any_hit.new.domain in
    let arms = c.args.arms.now in
    let values = c.args.values.now in
    let from = c.loop-at.from in
    let at = c.loop-at.at in
    let lt = c.loop-at-test.true in
    let k = c.len-from.result in
    let many = c.len-from.ensures in
    let a = c.index-arms-at.result in
    let b = c.index-arms-at-in-loop-at.result in
    record {
      kept = keeps_trans m d0 dn d1 i.kept c.any_hit.ensures.kept;
      are = l.more_values m dn d1 c.loop-at.all.items c.push.new.self.items c.in_ok-hit.hit c.any_hit.ensures.kept i.are c.in_ok-hit.ensures.made.is_one c.in_ok-push.ensures.items;
      within = l.arm_within m values arms from at k b lt many i.within i.long;
      long = l.arm_next m values arms from at k b lt many i.long;
      rest = λ v. l.arm_step m d0 dn d1 arms c.args.selector.now values from at k a b c.as_slice.result.now c.loop-at.all.items c.push.new.self.items c.in_ok-hit.hit lt
          c.as_slice.ensures many c.requires.selector_is c.requires.values_are i.kept c.any_hit.ensures.kept i.are c.in_ok-hit.ensures.made c.in_ok-push.ensures.items v (i.rest v);
    }

pub returns-clause-made : goal.returns-clause-made
returns-clause-made g c =
    l.arms_end g.D.Domain.meaning c.args.domain.now c.loop-at.domain c.args.arms.now c.args.selector.now.value c.args.values.now c.loop-at.from c.loop-at.at c.loop-at.all.items
    c.loop-at-test.false c.loop-at.invariant.are c.loop-at.invariant.rest
