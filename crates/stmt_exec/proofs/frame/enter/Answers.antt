use Rattle.std.proofs.Common.{◌<◌, arith, length}
use Rattle.design_core.specs.Terms.{lengths}
use Rattle.value_domain.proofs.KeepLaws.{keeps_trans}
use Rattle.stmt_exec.proofs.StandingLaws as s
use Rattle.stmt_exec.proofs.frame.enter.Goals as goal

pub extend-requires-clause-value : goal.extend-requires-clause-value
extend-requires-clause-value g c =
    let lt : c.loop-at.at < length c.args.arguments.now = (let t = c.loop-at-test.true in let m = c.requires.many in omega arith) in
    c.loop-at.invariant.kept.still _ (c.requires.arguments_are c.loop-at.at c.index-arguments-at.result lt).is_one

pub extend-requires-clause-some : goal.extend-requires-clause-some
extend-requires-clause-some g c = s.vector_some _ (s.local_fits c.args.inputs.now c.loop-at.at _ c.loop-at-test.true c.requires.inputs_fit)

pub extend-requires-clause-most : goal.extend-requires-clause-most
extend-requires-clause-most g c = s.vector_most _ (s.local_fits c.args.inputs.now c.loop-at.at _ c.loop-at-test.true c.requires.inputs_fit)

pub loop-at-preserved : goal.loop-at-preserved
loop-at-preserved g c = record {
  kept = keeps_trans g.D.Domain.meaning c.args.domain.now c.loop-at.domain c.extend.new.self c.loop-at.invariant.kept c.extend.ensures.kept;
  stands = s.input_step g.D.Domain.meaning c.args.domain.now c.loop-at.domain c.extend.new.self c.args.size c.args.inputs.now c.args.arguments.now c.loop-at.at _ c.index-arguments-at.result c.in_ok-value.value
      c.loop-at.all.items c.push-in-loop-at.new.self.items c.loop-at-test.true c.requires.many c.requires.arguments_are c.index-arguments-at.is c.loop-at.invariant.kept c.extend.ensures.kept c.loop-at.invariant.stands
      c.in_ok-value.ensures.made c.in_ok-push-2.ensures.items;
}

pub loop-at-2-init : goal.loop-at-2-init
loop-at-2-init g c = record {
  kept = c.loop-at.invariant.kept;
  stands = s.inputs_end g.D.Domain.meaning c.loop-at.domain c.args.size c.args.inputs.now (lengths c.args.rest.now) c.loop-at.at c.loop-at.all.items _ c.loop-at-test.false c.loop-at.invariant.stands;
}

pub zero-requires-in-loop-at-2 : goal.zero-requires-in-loop-at-2
zero-requires-in-loop-at-2 g c = s.local_fits c.args.rest.now c.loop-at-2.at _ c.loop-at-2-test.true c.requires.rest_fit

pub returns-in_err-value-2-clause-kept : goal.returns-in_err-value-2-clause-kept
returns-in_err-value-2-clause-kept g c = keeps_trans g.D.Domain.meaning c.args.domain.now c.loop-at-2.domain c.zero-in-loop-at-2.new.domain c.loop-at-2.invariant.kept c.zero-in-loop-at-2.ensures.kept

pub returns-in_err-push-3-clause-kept : goal.returns-in_err-push-3-clause-kept
returns-in_err-push-3-clause-kept g c = keeps_trans g.D.Domain.meaning c.args.domain.now c.loop-at-2.domain c.zero-in-loop-at-2.new.domain c.loop-at-2.invariant.kept c.zero-in-loop-at-2.ensures.kept

pub loop-at-2-preserved : goal.loop-at-2-preserved
loop-at-2-preserved g c = record {
  kept = keeps_trans g.D.Domain.meaning c.args.domain.now c.loop-at-2.domain c.zero-in-loop-at-2.new.domain c.loop-at-2.invariant.kept c.zero-in-loop-at-2.ensures.kept;
  stands = s.rest_local g.D.Domain.meaning c.loop-at-2.domain c.zero-in-loop-at-2.new.domain c.args.size (lengths c.args.inputs.now) c.args.rest.now c.loop-at-2.at _ c.in_ok-value-2.value
      c.loop-at-2.all.items c.push-in-loop-at-2.new.self.items _ c.loop-at-2-test.true c.zero-in-loop-at-2.ensures.kept c.loop-at-2.invariant.stands c.in_ok-value-2.ensures.made c.in_ok-push-3.ensures.items;
}

pub returns-clause-made : goal.returns-clause-made
returns-clause-made g c = s.locals_end g.D.Domain.meaning c.loop-at-2.domain c.args.size (lengths c.args.inputs.now) c.args.rest.now c.loop-at-2.at c.loop-at-2.all.items _ c.loop-at-2-test.false c.loop-at-2.invariant.stands
