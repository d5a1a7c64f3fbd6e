use Rattle.std.proofs.Common.{◌≡◌, ◌<◌, ◌≤◌, true, [], ◌∷◌, ◌++◌, All, length, map, get_or, ap, refl, sym, subst, ◌∙◌, arith, rules, sum_by, None, OnOk}
use Rattle.std.specs.Prelude.{slice_index_or}
use Rattle.std.proofs.lemmas.Int.{to_z-of_z}
use Rattle.std.proofs.lemmas.Result.{IfOk-weaker, on_ok_weaker}
use mir.Val.{SFits}
use mir.Syntax.{w64}
use Rattle.design_core.specs.declared.tree.DExpr.{size-DExpr}
use Rattle.design_core.specs.declared.tree.DLeft.{size-DLeft}
use Rattle.design_core.specs.declared.tree.DLeft.TheVariants as lefts
use Rattle.design_core.specs.declared.tree.DFunction.{DFunction, size-DFunction}
use Rattle.design_core.specs.Core.{entered}
use Rattle.design_core.specs.Formed.{is_vector, IsFormed, IsFormedLeft}
use Rattle.design_core.specs.Terms.{lengths}
use Rattle.design_core.proofs.SizeLaws as small
use Rattle.design_core.proofs.TermLaws.{stmt_write}
use Rattle.tree_parts.specs.Parts.{IsFormedFunction, children_of, heads_of, operands_of, seen}
use Rattle.tree_parts.proofs.PartLaws as p
use Rattle.value_domain.specs.declared.parts.Word.{Word}
use Rattle.value_domain.specs.Meaning.{Stands}
use Rattle.value_domain.specs.Words.{IsGuard, IsWord, allows}
use Rattle.stmt_exec.specs.Choices.{AreGuards, allowed_of}
use Rattle.stmt_exec.specs.State.{IsFrame, Standing, expr_value, local_widths, locals_in, signal_widths, size_for}
use Rattle.stmt_exec.specs.Runs.{AreWorth, CanRun, Follows, IsResolved, called}
use Rattle.value_domain.proofs.KeepLaws.{keeps_trans}
use Rattle.stmt_exec.proofs.DomainLaws as d
use Rattle.stmt_exec.proofs.StandingLaws as s
use Rattle.stmt_exec.proofs.LayerLaws.{formed_items}
use Rattle.stmt_exec.proofs.EvalLaws as e
use Rattle.stmt_exec.proofs.ExecLaws as x
use Rattle.stmt_exec.proofs.ResolveLaws as r
use Rattle.stmt_exec.proofs.WalkLaws as w
use Rattle.stmt_exec.proofs.walk.+walk.Goals as goal

pub eval_in-eval_all-requires : goal.eval_in-eval_all-requires
eval_in-eval_all-requires g t c κs within =
    let is : seen c.as_slice.result.now ≡ operands_of c.args.e.now = ap seen c.as_slice.ensures.value ∙ c.in_ok-parts.ensures in
    let vs = map g.D.Domain.meaning.width c.args.signals.now in
    let ls = map g.D.Domain.meaning.width c.args.locals.now in
    ((let less = w.operands_fall c.args.e.now c.as_slice.result.now is in omega (arith, less)), (within.0, (within.1, (c.requires.values, subst (All (IsFormed vs ls)) (sym is) (p.formed_operands vs ls c.args.e.now c.requires.formed)))))

pub eval_in-call-requires : goal.eval_in-call-requires
eval_in-call-requires g t c κs within =
    let m = g.D.Domain.meaning in
    let is : seen c.as_slice.result.now ≡ operands_of c.args.e.now = ap seen c.as_slice.ensures.value ∙ c.in_ok-parts.ensures in
    let f = c.in-Call.function in
    let formed = p.formed_call (map m.width c.args.signals.now) (map m.width c.args.locals.now) c.args.e.now f c.in-Call.arguments c.in-Call.is c.requires.formed in
    let ws = c.as_slice-in-Call.ensures.value in
    let worth = subst (λ es. AreWorth m c.args.domain.now c.eval_all.new.domain c.args.signals.now c.args.locals.now es c.in_ok-words.words.items) is c.in_ok-words.ensures.made in
    let less = (small.smaller_call c.args.e.now f c.in-Call.arguments c.in-Call.is).0 in
    let q = ap size-DFunction c.get.ensures in (
      omega (arith, less, q),
      (
        within.0,
        (
          within.1,
          (
            d.kept_all m c.args.domain.now c.eval_all.new.domain c.args.signals.now c.eval_all.ensures.kept c.requires.values.signals_are,
            (
              subst (All (IsWord m c.eval_all.new.domain)) (sym ws) worth.are,
              (
                ap length ws ∙ e.arguments_many m c.args.domain.now c.eval_all.new.domain c.args.signals.now c.args.locals.now c.args.e.now f c.in-Call.arguments c.in_ok-words.words.items c.in-Call.is c.requires.formed worth ∙ ap (λ (y : DFunction). length y.inputs) (sym c.get.ensures),
                subst (IsFormedFunction (map m.width c.args.signals.now)) (sym c.get.ensures) formed.0,
              ),
            ),
          ),
        ),
      ),
    )

pub eval_in-returns-in-Call-clause-made : goal.eval_in-returns-in-Call-clause-made
eval_in-returns-in-Call-clause-made g t c =
    let m = g.D.Domain.meaning in
    let is : seen c.as_slice.result.now ≡ operands_of c.args.e.now = ap seen c.as_slice.ensures.value ∙ c.in_ok-parts.ensures in
    let worth = subst (λ es. AreWorth m c.args.domain.now c.eval_all.new.domain c.args.signals.now c.args.locals.now es c.in_ok-words.words.items) is c.in_ok-words.ensures.made in
    IfOk-weaker c.call.result _ _ (λ r made. e.call_made m c.args.domain.now c.eval_all.new.domain c.call.new.domain c.args.signals.now c.args.locals.now c.args.e.now c.in-Call.function c.in-Call.arguments c.in_ok-words.words.items r
    c.in-Call.is c.requires.formed c.eval_all.ensures.kept c.requires.values worth
    (subst (λ ws. Stands m c.call.new.domain r c.in-Call.function.length (called m c.eval_all.new.domain c.args.signals.now c.in-Call.function ws)) c.as_slice-in-Call.ensures.value
    (subst (λ f. Stands m c.call.new.domain r f.length (called m c.eval_all.new.domain c.args.signals.now f c.as_slice-in-Call.result.now)) c.get.ensures made))) c.call.ensures.made

pub eval_in-combine-requires : goal.eval_in-combine-requires
eval_in-combine-requires g t c =
    let m = g.D.Domain.meaning in
    let is : seen c.as_slice.result.now ≡ operands_of c.args.e.now = ap seen c.as_slice.ensures.value ∙ c.in_ok-parts.ensures in
    let worth = subst (λ es. AreWorth m c.args.domain.now c.eval_all.new.domain c.args.signals.now c.args.locals.now es c.in_ok-words.words.items) is c.in_ok-words.ensures.made in
    record {
      values = e.values_later m c.args.domain.now c.eval_all.new.domain c.args.signals.now c.args.locals.now c.eval_all.ensures.kept c.requires.values;
      formed = c.requires.formed;
      plain = w.plain c.args.e.now c.in_default.not-Call;
      worth = subst (AreWorth m c.eval_all.new.domain c.eval_all.new.domain c.args.signals.now c.args.locals.now (operands_of c.args.e.now)) (sym c.as_slice-in_default.ensures.value)
          (e.worth_here m c.args.domain.now c.eval_all.new.domain c.args.signals.now c.args.locals.now (operands_of c.args.e.now) c.in_ok-words.words.items c.eval_all.ensures.kept c.requires.values worth);
    }

pub eval_in-returns : goal.eval_in-returns
eval_in-returns g t c =
    let m = g.D.Domain.meaning in
    record {
      made = IfOk-weaker c.combine.result _ _ (λ r made. e.stands_back m c.args.domain.now c.eval_all.new.domain c.combine.new.domain c.args.signals.now c.args.locals.now c.args.e.now r c.eval_all.ensures.kept c.requires.values made) c.combine.ensures.made;
      kept = keeps_trans m c.args.domain.now c.eval_all.new.domain c.combine.new.domain c.eval_all.ensures.kept c.combine.ensures.kept;
    }

pub eval_all-eval_in-requires : goal.eval_all-eval_in-requires
eval_all-eval_in-requires g t c κs within =
    let m = g.D.Domain.meaning in (
      (let less = w.part_falls c.args.parts.now c.loop-at.at c.index-parts-at.result c.loop-at-test.true c.index-parts-at.is in omega (arith, less)),
      (
        within.0,
        (
          within.1,
          (
            e.values_later m c.args.domain.now c.loop-at.domain c.args.signals.now c.args.locals.now c.loop-at.invariant.kept c.requires.values,
            w.part_formed (map m.width c.args.signals.now) (map m.width c.args.locals.now) c.args.parts.now c.loop-at.at c.index-parts-at.result c.requires.formed c.loop-at-test.true c.index-parts-at.is,
          ),
        ),
      ),
    )

pub eval_all-loop-at-preserved : goal.eval_all-loop-at-preserved
eval_all-loop-at-preserved g t c =
    let m = g.D.Domain.meaning in
    let vs = map m.width c.args.signals.now in
    let ls = map m.width c.args.locals.now in
    record {
      kept = keeps_trans m c.args.domain.now c.loop-at.domain c.eval_in.new.domain c.loop-at.invariant.kept c.eval_in.ensures.kept;
      worth = e.worth_push m c.args.domain.now c.loop-at.domain c.eval_in.new.domain c.args.signals.now c.args.locals.now (seen c.args.parts.now) c.loop-at.at c.index-parts-at.result.now c.in_ok-value.value c.index-parts-at.result.now.length
          c.loop-at.words.items c.push.new.self.items (w.part_there c.args.parts.now c.loop-at.at c.loop-at-test.true)
          (w.part_is c.args.parts.now c.loop-at.at c.index-parts-at.result c.loop-at-test.true c.index-parts-at.is)
          (p.formed_vector vs ls c.index-parts-at.result.now (w.part_formed vs ls c.args.parts.now c.loop-at.at c.index-parts-at.result c.requires.formed c.loop-at-test.true c.index-parts-at.is))
          refl c.loop-at.invariant.kept c.requires.values c.eval_in.ensures.kept c.loop-at.invariant.worth c.in_ok-value.ensures.made c.in_ok-push.ensures.items;
    }

pub call-enter-requires-clause-inputs_fit : goal.call-enter-requires-clause-inputs_fit
call-enter-requires-clause-inputs_fit g t c =
    subst (λ xs. All (λ n. is_vector n ≡ true) (lengths xs)) (sym c.as_slice.ensures) (p.formed_function (map g.D.Domain.meaning.width c.args.signals.now) c.args.function.now c.requires.formed).1.0

pub call-enter-requires-clause-rest_fit : goal.call-enter-requires-clause-rest_fit
call-enter-requires-clause-rest_fit g t c =
    subst (λ xs. All (λ n. is_vector n ≡ true) (lengths xs)) (sym c.as_slice-2.ensures) (p.formed_function (map g.D.Domain.meaning.width c.args.signals.now) c.args.function.now c.requires.formed).1.1.0

pub call-exec_in-requires : goal.call-exec_in-requires
call-exec_in-requires g t c κs within =
    let m = g.D.Domain.meaning in
    let f = c.args.function.now in
    let all = c.in_ok-locals.locals.items in
    let vs = map m.width c.args.signals.now in
    let st = e.locals_of_call m c.args.domain.now c.enter.new.domain all f c.as_slice.result.now c.as_slice-2.result.now c.args.arguments.now c.as_slice.ensures c.as_slice-2.ensures c.in_ok-locals.ensures.made in
    let less = small.smaller_body f in
    let are = d.kept_all m c.args.domain.now c.enter.new.domain c.args.signals.now c.enter.ensures.kept c.requires.signals_are in (
      omega (arith, less),
      (
        within.0,
        (
          within.1,
          (
            tt,
            (
              subst (λ xs. IsFrame m c.enter.new.domain true c.args.signals.now xs c.as_mut_slice-2.result.now) (sym c.as_mut_slice.ensures.value)
                  (e.inside_frame m c.enter.new.domain c.args.signals.now all c.as_mut_slice-2.result.now (f.length ∷ (lengths f.inputs ++ lengths f.locals)) _ (c.as_mut_slice-2.ensures.value ∙ c.new-none.ensures.items) are st (e.function_vectors m vs f c.requires.formed)),
              subst (λ xs. CanRun m true c.args.signals.now xs f.body) (sym c.as_mut_slice.ensures.value) (e.inside_runs m c.enter.new.domain c.args.signals.now all f _ c.requires.formed st),
            ),
          ),
        ),
      ),
    )

pub call-returns-clause-made : goal.call-returns-clause-made
call-returns-clause-made g t c =
    let m = g.D.Domain.meaning in
    let f = c.args.function.now in
    let st = e.locals_of_call m c.args.domain.now c.enter.new.domain c.in_ok-locals.locals.items f c.as_slice.result.now c.as_slice-2.result.now c.args.arguments.now c.as_slice.ensures c.as_slice-2.ensures c.in_ok-locals.ensures.made in
    IfOk-weaker c.copy_first.result _ _ (λ r made. e.result_made m c.args.domain.now c.enter.new.domain c.exec_in.new.domain c.copy_first.new.domain c.args.signals.now c.as_mut_slice.result.now c.as_mut_slice-2.result.now c.exec_in.new.now c.exec_in.new.next
    f c.args.arguments.now None r refl c.requires.signals_are c.enter.ensures.kept c.requires.arguments_are
    (subst (λ xs. Standing m c.enter.new.domain xs (f.length ∷ (lengths f.inputs ++ lengths f.locals)) (λ v. entered f.length (lengths f.inputs) (lengths f.locals) (map (λ (y : Word _). m.reads c.args.domain.now v y.value) c.args.arguments.now))) (sym c.as_mut_slice.ensures.value) st)
    c.exec_in.ensures.like c.in_ok-exec_in.ensures.done
    (subst (λ xs. Stands m c.copy_first.new.domain r (slice_index_or (map m.width xs) 0 0) (λ v. slice_index_or (map (m.reads c.exec_in.new.domain v) xs) 0 [])) (c.as_slice-3.ensures.value ∙ e.written_back m c.in_ok-locals.locals.len c.exec_in.new.now c.as_mut_slice.result.now _ c.exec_in.ensures.like.now_wide c.as_mut_slice.ensures.len) made)) c.copy_first.ensures.made

pub call-returns-clause-kept : goal.call-returns-clause-kept
call-returns-clause-kept g t c =
    let m = g.D.Domain.meaning in
    keeps_trans m c.args.domain.now c.enter.new.domain c.copy_first.new.domain c.enter.ensures.kept (keeps_trans m c.enter.new.domain c.exec_in.new.domain c.copy_first.new.domain c.exec_in.ensures.kept c.copy_first.ensures.kept)

pub decide-eval_all-requires : goal.decide-eval_all-requires
decide-eval_all-requires g t c κs within =
    let m = g.D.Domain.meaning in
    let is : seen c.as_slice.result.now ≡ heads_of c.args.body.now = ap seen c.as_slice.ensures.value ∙ c.in_ok-parts.ensures in
    let vs = map m.width c.args.signals.now in
    let ls = map m.width c.args.locals.now in
    ((let less = w.heads_fall c.args.body.now c.as_slice.result.now is in omega (arith, less)), (within.0, (within.1, (c.requires.values, subst (All (IsFormed vs ls)) (sym is) (x.asked_heads m vs ls c.args.body.now c.requires.formed)))))

pub decide-choose-requires-clause-fit : goal.decide-choose-requires-clause-fit
decide-choose-requires-clause-fit g t c =
    formed_items (map g.D.Domain.meaning.width c.args.signals.now) (map g.D.Domain.meaning.width c.args.locals.now) c.requires.formed.inside c.requires.formed.kinds c.args.body.now c.requires.formed.formed

pub decide-returns-clause-made : goal.decide-returns-clause-made
decide-returns-clause-made g t c =
    let m = g.D.Domain.meaning in
    let is : seen c.as_slice.result.now ≡ heads_of c.args.body.now = ap seen c.as_slice.ensures.value ∙ c.in_ok-parts.ensures in
    let worth = subst (λ es. AreWorth m c.args.domain.now c.eval_all.new.domain c.args.signals.now c.args.locals.now es c.in_ok-words.words.items) is c.in_ok-words.ensures.made in
    IfOk-weaker c.choose.result _ _ (λ r made. x.guards_made m c.args.domain.now c.eval_all.new.domain c.choose.new.domain c.args.signals.now c.args.locals.now c.args.body.now c.args.guard.now c.in_ok-words.words.items r.items c.eval_all.ensures.kept c.requires.guard_is worth
    (subst (λ ws. AreGuards m c.choose.new.domain r.items (λ v. allowed_of c.args.body.now (allows m c.eval_all.new.domain v c.args.guard.now) (map (λ (y : Word _). m.reads c.eval_all.new.domain v y.value) ws))) c.as_slice-2.ensures.value made)) c.choose.ensures.made

pub exec_in-exec_write-requires : goal.exec_in-exec_write-requires
exec_in-exec_write-requires g t c κs within =
    let m = g.D.Domain.meaning in
    let parts = w.write_parts m c.args.inside c.args.outer.now c.args.now.now c.args.body.now c.in-Write.left c.in-Write.right c.in-Write.blocking c.in-Write.is c.requires.formed in
    ((let less = w.write_falls c.args.body.now c.in-Write.left c.in-Write.right c.in-Write.blocking c.in-Write.is in omega (arith, less)), (within.0, (within.1, (c.requires.guard_is, (c.requires.frame, (parts.0, (parts.1.0, parts.1.1)))))))

pub exec_in-returns-in-Write-clause-done : goal.exec_in-returns-in-Write-clause-done
exec_in-returns-in-Write-clause-done g t c =
    let m = g.D.Domain.meaning in
    let size = size_for m c.args.inside c.args.outer.now c.args.now.now in
    subst (λ s. OnOk c.exec_write.result (Follows m c.args.domain.now c.exec_write.new.domain c.args.guard.now c.args.inside c.args.outer.now c.args.now.now c.args.next.now c.exec_write.new.now c.exec_write.new.next s))
    (sym (stmt_write size c.args.body.now c.in-Write.left c.in-Write.right c.in-Write.blocking c.in-Write.is)) c.exec_write.ensures.done

pub exec_in-loop-at-init : goal.exec_in-loop-at-init
exec_in-loop-at-init g t c =
    let m = g.D.Domain.meaning in
    let guards = subst (λ ss. AreGuards m c.decide.new.domain c.in_ok-guards.guards.items (λ v. allowed_of c.args.body.now (allows m c.args.domain.now v c.args.guard.now)
    (map (λ y. expr_value m c.args.domain.now ss (locals_in c.args.inside c.args.outer.now c.args.now.now) y v) (heads_of c.args.body.now)))) c.signals_of-signals.ensures
    (subst (λ ls. AreGuards m c.decide.new.domain c.in_ok-guards.guards.items (λ v. allowed_of c.args.body.now (allows m c.args.domain.now v c.args.guard.now)
    (map (λ y. expr_value m c.args.domain.now c.signals_of-signals.result.now ls y v) (heads_of c.args.body.now)))) c.locals_of-locals.ensures c.in_ok-guards.ensures.made) in
    record {
      kept = c.decide.ensures.kept;
      like = x.like_later m c.args.domain.now c.decide.new.domain c.args.inside c.args.outer.now c.args.now.now c.args.next.now c.args.now.now c.decide.ensures.kept (x.like_now m c.args.domain.now c.args.inside c.args.outer.now c.args.now.now c.args.next.now c.requires.frame);
      guards_are = guards;
      rest = x.rest_start m c.args.domain.now c.decide.new.domain c.args.inside c.args.outer.now c.args.now.now c.args.next.now c.args.body.now c.args.guard.now c.in_ok-guards.guards.items (w.writes_nothing c.args.body.now c.in_default.not-Write) c.decide.ensures.kept c.requires.frame guards;
    }

pub exec_in-exec_in-requires : goal.exec_in-exec_in-requires
exec_in-exec_in-requires g t c κs within =
    let m = g.D.Domain.meaning in
    let i = c.loop-at.invariant in
    let lt : c.loop-at.at < length c.in_ok-statements.statements.items = (let n = c.len-at-end.ensures in let l = c.loop-at-test.true in search rules) in
    let there = w.part_there c.in_ok-statements.statements.items c.loop-at.at lt in (
      (let less = w.child_falls c.args.body.now c.in_ok-statements.statements.items c.loop-at.at c.index.result.now c.in_ok-statements.ensures lt c.index.ensures in omega (arith, less)),
      (
        within.0,
        (
          within.1,
          (
            subst (IsGuard m c.loop-at.domain) (sym c.index-in-loop-at.ensures) (i.guards_are.are c.loop-at.at c.index-in-loop-at.result.now (w.guard_there c.in_ok-statements.statements.items c.in_ok-guards.guards.items c.args.body.now c.loop-at.at c.in_ok-statements.ensures c.in_ok-guards.ensures.many lt)),
            (
              i.like.frame,
              x.child_runs m c.args.inside c.args.outer.now c.loop-at.now c.args.now.now c.args.body.now c.index.result.now.now c.loop-at.at c.requires.formed i.like.now_wide
                  (subst (λ l. c.loop-at.at < length l) c.in_ok-statements.ensures there)
                  (subst (λ l. get_or l c.loop-at.at c.index.result.now.now ≡ c.index.result.now.now) c.in_ok-statements.ensures (w.part_is c.in_ok-statements.statements.items c.loop-at.at c.index.result.now lt c.index.ensures)),
            ),
          ),
        ),
      ),
    )

pub exec_in-loop-at-preserved : goal.exec_in-loop-at-preserved
exec_in-loop-at-preserved g t c =
    let m = g.D.Domain.meaning in
    let i = c.loop-at.invariant in
    let lt : c.loop-at.at < length c.in_ok-statements.statements.items = (let n = c.len-at-end.ensures in let l = c.loop-at-test.true in search rules) in
    let there = subst (λ l. c.loop-at.at < length l) c.in_ok-statements.ensures (w.part_there c.in_ok-statements.statements.items c.loop-at.at lt) in
    let child = subst (λ l. get_or l c.loop-at.at c.index.result.now.now ≡ c.index.result.now.now) c.in_ok-statements.ensures (w.part_is c.in_ok-statements.statements.items c.loop-at.at c.index.result.now lt c.index.ensures) in
    let guard = w.guard_there c.in_ok-statements.statements.items c.in_ok-guards.guards.items c.args.body.now c.loop-at.at c.in_ok-statements.ensures c.in_ok-guards.ensures.many lt in
    record {
      kept = keeps_trans m c.args.domain.now c.loop-at.domain c.exec_in.new.domain i.kept c.exec_in.ensures.kept;
      like = x.like_from m c.exec_in.new.domain c.args.inside c.args.outer.now c.exec_in.new.now c.exec_in.new.next c.loop-at.now c.args.now.now c.exec_in.ensures.like i.like.now_wide;
      guards_are = x.guards_later m c.loop-at.domain c.exec_in.new.domain c.in_ok-guards.guards.items _ c.exec_in.ensures.kept i.guards_are;
      rest = λ v. x.rest_step m c.loop-at.domain c.exec_in.new.domain c.args.inside c.args.outer.now c.loop-at.now c.loop-at.next c.exec_in.new.now c.exec_in.new.next c.args.now.now c.index.result.now.now (children_of c.args.body.now) c.loop-at.at
          c.index-in-loop-at.result.now c.in_ok-guards.guards.items _ guard there child c.index-in-loop-at.ensures c.exec_in.ensures.kept i.guards_are.are i.like.now_wide v (i.rest v) (c.in_ok-exec_in.ensures.done v);
    }

pub exec_in-returns : goal.exec_in-returns
exec_in-returns g t c =
    let m = g.D.Domain.meaning in
    let i = c.loop-at.invariant in
    let le : length c.in_ok-statements.statements.items ≤ c.loop-at.at = (let n = c.len-at-end.ensures in let l = c.loop-at-test.false in search rules) in
    record {
      kept = i.kept;
      like = i.like;
      done = λ v. x.rest_end m c.loop-at.domain c.args.inside c.args.outer.now c.loop-at.now c.loop-at.next c.args.now.now (children_of c.args.body.now) c.loop-at.at c.in_ok-guards.guards.items _
          (w.all_seen c.in_ok-statements.statements.items (children_of c.args.body.now) c.loop-at.at c.in_ok-statements.ensures le) v (i.rest v);
    }

pub exec_write-assign-requires-clause-bits : goal.exec_write-assign-requires-clause-bits
exec_write-assign-requires-clause-bits g t c =
    let m = g.D.Domain.meaning in
    let most = w.left_most (signal_widths m c.args.inside c.args.outer.now c.args.now.now) (local_widths m c.args.inside c.args.outer.now c.args.now.now) c.args.inside c.args.left.now c.requires.formed_left in
    subst (λ ts. sum_by (λ y. y.length) ts ≤ 65536) (sym c.as_slice.ensures.value) (let b = c.in_ok-targets.ensures.made.bits in omega (arith, b, most))

pub exec_write-returns-clause-kept : goal.exec_write-returns-clause-kept
exec_write-returns-clause-kept g t c =
    let m = g.D.Domain.meaning in
    keeps_trans m c.args.domain.now c.eval_in.new.domain c.assign.new.domain c.eval_in.ensures.kept (keeps_trans m c.eval_in.new.domain c.resolve.new.domain c.assign.new.domain c.resolve.ensures.kept c.assign.ensures.kept)

pub exec_write-returns-clause-done : goal.exec_write-returns-clause-done
exec_write-returns-clause-done g t c =
    let m = g.D.Domain.meaning in
    let value = subst (λ ss. Stands m c.eval_in.new.domain c.in_ok-value.value c.args.right.now.length (expr_value m c.args.domain.now ss (locals_in c.args.inside c.args.outer.now c.args.now.now) c.args.right.now)) c.signals_of-signals.ensures
    (subst (λ ls. Stands m c.eval_in.new.domain c.in_ok-value.value c.args.right.now.length (expr_value m c.args.domain.now c.signals_of-signals.result.now ls c.args.right.now)) c.locals_of-locals.ensures c.in_ok-value.ensures.made) in
    on_ok_weaker c.assign.result (λ done. x.write_made m c.args.domain.now c.eval_in.new.domain c.resolve.new.domain c.assign.new.domain c.args.inside c.args.outer.now c.args.now.now c.args.next.now c.assign.new.now c.assign.new.next
    c.args.left.now c.args.right.now c.args.blocking c.args.guard.now c.in_ok-value.value c.as_slice.result.now c.requires.frame c.requires.guard_is c.eval_in.ensures.kept c.resolve.ensures.kept value
    (subst (IsResolved m c.eval_in.new.domain c.resolve.new.domain c.args.inside c.args.outer.now c.args.now.now c.args.left.now) (sym c.as_slice.ensures.value) c.in_ok-targets.ensures.made) done) c.assign.ensures.done

pub resolve-resolve_at-requires : goal.resolve-resolve_at-requires
resolve-resolve_at-requires g t c κs within =
    let m = g.D.Domain.meaning in
    let inside = c.args.inside in
    let formed = p.formed_at (signal_widths m inside c.args.outer.now c.args.now.now) (local_widths m inside c.args.outer.now c.args.now.now) inside c.args.left.now c.in-At.base c.in-At.index c.in-At.offset c.in-At.down c.in-At.length c.in-At.is c.requires.formed in
    let less = small.smaller_index c.args.left.now c.in-At.base c.in-At.index c.in-At.offset c.in-At.down c.in-At.length c.in-At.is in
    let q = ap size-DExpr c.get-in-At.ensures in (
      omega (arith, less, q),
      (
        within.0,
        (
          within.1,
          (
            r.values_here m c.args.domain.now inside c.args.outer.now c.args.now.now _ _ c.signals_of-signals.ensures c.locals_of-locals.ensures c.requires.outer_are c.requires.now_are,
            r.formed_here m inside c.args.outer.now c.args.now.now _ _ c.signals_of-signals.ensures c.locals_of-locals.ensures _ _ c.get-in-At.ensures formed.1.0,
          ),
        ),
      ),
    )

pub resolve-resolve-requires : goal.resolve-resolve-requires
resolve-resolve-requires g t c κs within =
    let m = g.D.Domain.meaning in
    let inside = c.args.inside in
    let k = c.loop-at.invariant.kept in
    let parts = p.formed_left_parts (signal_widths m inside c.args.outer.now c.args.now.now) (local_widths m inside c.args.outer.now c.args.now.now) inside c.args.left.now c.in-Concat.parts c.in-Concat.is c.requires.formed in
    let less = small.smaller_parts c.args.left.now c.in-Concat.parts c.in-Concat.is in
    let there = subst (λ l. c.loop-at.at < length l) c.as_slice-parts.ensures c.loop-at-test.true in
    let is = subst (λ l. c.index-parts-at.result ≡ get_or l c.loop-at.at c.index-parts-at.result) c.as_slice-parts.ensures c.index-parts-at.is in
    let within-parts = small.left_in c.in-Concat.parts c.loop-at.at c.index-parts-at.result there in
    let q = ap size-DLeft is in (
      omega (arith, less, within-parts, q),
      (
        within.0,
        (
          within.1,
          (
            d.kept_all m c.args.domain.now c.loop-at.domain c.args.outer.now k c.requires.outer_are,
            (
              d.kept_all m c.args.domain.now c.loop-at.domain c.args.now.now k c.requires.now_are,
              subst (IsFormedLeft (signal_widths m inside c.args.outer.now c.args.now.now) (local_widths m inside c.args.outer.now c.args.now.now) inside) (sym is) (parts.0 c.loop-at.at c.index-parts-at.result there),
            ),
          ),
        ),
      ),
    )

pub resolve-returns-in_err-more-in-Concat-clause-kept : goal.resolve-returns-in_err-more-in-Concat-clause-kept
resolve-returns-in_err-more-in-Concat-clause-kept g t c =
    keeps_trans g.D.Domain.meaning c.args.domain.now c.loop-at.domain c.resolve.new.domain c.loop-at.invariant.kept c.resolve.ensures.kept

pub resolve-returns-in_err-append-in-Concat-clause-kept : goal.resolve-returns-in_err-append-in-Concat-clause-kept
resolve-returns-in_err-append-in-Concat-clause-kept g t c =
    keeps_trans g.D.Domain.meaning c.args.domain.now c.loop-at.domain c.resolve.new.domain c.loop-at.invariant.kept c.resolve.ensures.kept

pub resolve-loop-at-preserved : goal.resolve-loop-at-preserved
resolve-loop-at-preserved g t c =
    let m = g.D.Domain.meaning in
    record {
      kept = keeps_trans m c.args.domain.now c.loop-at.domain c.resolve.new.domain c.loop-at.invariant.kept c.resolve.ensures.kept;
      first = r.parts_push m c.args.domain.now c.loop-at.domain c.resolve.new.domain c.args.inside c.args.outer.now c.args.now.now c.as_slice-parts.result.now c.loop-at.at c.index-parts-at.result c.loop-at.all.items c.in_ok-more-in-Concat.more.items
          c.append.new.self.items c.loop-at-test.true (sym c.index-parts-at.is)
          (r.values_in m c.args.domain.now c.args.inside c.args.outer.now c.args.now.now c.requires.outer_are c.requires.now_are) c.loop-at.invariant.kept c.resolve.ensures.kept c.loop-at.invariant.first c.in_ok-more-in-Concat.ensures.made c.in_ok-append-in-Concat.ensures.items;
    }

pub resolve-returns-in-Whole-clause-made : goal.resolve-returns-in-Whole-clause-made
resolve-returns-in-Whole-clause-made g t c =
    IfOk-weaker c.one_target.result _ _ (λ ts is. r.whole_resolved g.D.Domain.meaning c.args.domain.now c.args.domain.now c.args.inside c.args.outer.now c.args.now.now c.args.left.now c.in-Whole.base c.in-Whole.length ts.items c.in-Whole.is c.requires.formed is) c.one_target.ensures

pub resolve-returns-in-Part-clause-made : goal.resolve-returns-in-Part-clause-made
resolve-returns-in-Part-clause-made g t c =
    let fits : SFits w64 c.in-Part.low = search rules in
    IfOk-weaker c.one_target-in-Part.result _ _ (λ ts is. r.part_resolved g.D.Domain.meaning c.args.domain.now c.args.domain.now c.args.inside c.args.outer.now c.args.now.now c.args.left.now c.in-Part.base c.in-Part.low _ c.in-Part.length ts.items c.in-Part.is
    (to_z-of_z w64 c.in-Part.low fits) c.requires.formed is) c.one_target-in-Part.ensures

pub resolve-returns-in_ok-spot-in-At-clause-made : goal.resolve-returns-in_ok-spot-in-At-clause-made
resolve-returns-in_ok-spot-in-At-clause-made g t c =
    let m = g.D.Domain.meaning in
    let fits : SFits w64 c.in-At.offset = search rules in
    IfOk-weaker c.one_target-in-At.result _ _ (λ ts is. r.at_resolved m c.args.domain.now c.resolve_at.new.domain c.args.inside c.args.outer.now c.args.now.now c.args.left.now c.in-At.base c.in-At.index c.in-At.offset c.in-At.down c.in-At.length c.in_ok-spot-in-At.spot ts.items c.in-At.is c.requires.formed
    (r.read_here m c.args.domain.now c.resolve_at.new.domain c.args.inside c.args.outer.now c.args.now.now _ _ c.signals_of-signals.ensures c.locals_of-locals.ensures c.in-At.index _ _ c.get.ensures c.get-in-At.ensures _ _ (to_z-of_z w64 c.in-At.offset fits) c.in-At.down c.in_ok-spot-in-At.spot c.in_ok-spot-in-At.ensures.made) is) c.one_target-in-At.ensures

pub resolve-returns-after-loop-at-clause-made : goal.resolve-returns-after-loop-at-clause-made
resolve-returns-after-loop-at-clause-made g t c =
    r.parts_end g.D.Domain.meaning c.args.domain.now c.loop-at.domain c.args.inside c.args.outer.now c.args.now.now c.args.left.now c.as_slice-parts.result.now c.loop-at.at c.loop-at.all.items (c.in-Concat.is ∙ ap lefts.Concat (sym c.as_slice-parts.ensures)) c.loop-at-test.false c.requires.formed c.loop-at.invariant.first

pub resolve_at-returns-clause-made : goal.resolve_at-returns-clause-made
resolve_at-returns-clause-made g t c =
    let m = g.D.Domain.meaning in
    let st = c.in_ok-value.ensures.made in
    record {
      index = record { value = c.in_ok-value.value; length = c.args.index.now.length };
      is = refl;
      is_word = record { is_one = st.is_one; wide = st.wide; some = s.vector_some c.args.index.now.length (p.formed_vector (map m.width c.args.signals.now) (map m.width c.args.locals.now) c.args.index.now c.requires.formed) };
      long = refl;
      reads_as = st.reads_as;
    }
