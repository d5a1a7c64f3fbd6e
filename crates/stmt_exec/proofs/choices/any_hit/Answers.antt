use Rattle.value_domain.proofs.KeepLaws.{keeps_trans}
use Rattle.stmt_exec.proofs.GuardLaws as l
use Rattle.stmt_exec.proofs.choices.any_hit.Goals as goal

pub matched-requires-clause-same : goal.matched-requires-clause-same
matched-requires-clause-same g c =
    l.same_width g.D.Domain.meaning c.args.domain.now c.args.items.now c.args.selector.now c.args.values.now c.loop-at.at c.index-items-at.result c.index-values-at.result
    c.loop-at-test.true c.requires.selector_is c.requires.values_are c.requires.fit c.requires.long

pub loop-at-preserved : goal.loop-at-preserved
loop-at-preserved g c =
    let m = g.D.Domain.meaning in
    let i = c.loop-at.invariant in
    let dn = c.loop-at.domain in
    let d1 = c.matched.new.domain in
    let d2 = c.binary.new.self in
    record {
      kept = keeps_trans m c.args.domain.now dn d2 i.kept (keeps_trans m dn d1 d2 c.matched.ensures.kept c.binary.ensures.kept);
      is_one = c.in_ok-any-2.ensures.made.is_one;
      rest = λ v. l.hit_step m c.args.domain.now dn d1 d2 c.args.items.now c.args.selector.now c.args.values.now c.loop-at.at c.index-items-at.result c.index-values-at.result c.loop-at.any c.in_ok-hit.hit c.in_ok-any-2.any
          c.loop-at-test.true c.requires.selector_is c.requires.values_are c.requires.fit c.requires.long i.kept c.matched.ensures.kept i.is_one
          c.in_ok-hit.ensures.made.reads_as c.in_ok-any-2.ensures.made.reads_as v (i.rest v);
    }
