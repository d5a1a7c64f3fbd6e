use Rattle.std.proofs.lemmas.Result.{IfOk-weaker}
use Rattle.stmt_exec.proofs.LayerLaws as l
use Rattle.stmt_exec.proofs.choices.choose.Goals as goal

pub bounds-words-0 : goal.bounds-words-0
bounds-words-0 g c = l.if_words g.D.Domain.meaning c.args.body.now c.args.words.now c.requires.long c.in-If.test c.in-If.yes c.in-If.no c.in-If.is

pub copy-requires : goal.copy-requires
copy-requires g c =
    (c.requires.words_are 0 c.index-words-0.result (l.if_words g.D.Domain.meaning c.args.body.now c.args.words.now c.requires.long c.in-If.test c.in-If.yes c.in-If.no c.in-If.is)).is_one

pub bounds-words-0-in-Case : goal.bounds-words-0-in-Case
bounds-words-0-in-Case g c = (l.case_words g.D.Domain.meaning c.args.body.now c.args.words.now c.requires.long c.in-Case.selector c.in-Case.arms c.in-Case.rest c.in-Case.is).0

pub scale_in_slice-hits-in-Case : goal.scale_in_slice-hits-in-Case
scale_in_slice-hits-in-Case g c = (l.case_words g.D.Domain.meaning c.args.body.now c.args.words.now c.requires.long c.in-Case.selector c.in-Case.arms c.in-Case.rest c.in-Case.is).0

pub slice_bounds-hits-count : goal.slice_bounds-hits-count
slice_bounds-hits-count g c = (l.case_words g.D.Domain.meaning c.args.body.now c.args.words.now c.requires.long c.in-Case.selector c.in-Case.arms c.in-Case.rest c.in-Case.is).0

pub slice_bounds-hits-start : goal.slice_bounds-hits-start
slice_bounds-hits-start g c = (l.case_words g.D.Domain.meaning c.args.body.now c.args.words.now c.requires.long c.in-Case.selector c.in-Case.arms c.in-Case.rest c.in-Case.is).0

pub hits-requires-clause-selector_is : goal.hits-requires-clause-selector_is
hits-requires-clause-selector_is g c =
    l.first_word g.D.Domain.meaning c.args.domain.now c.args.words.now c.index-words-0-in-Case.result
    (l.case_words g.D.Domain.meaning c.args.body.now c.args.words.now c.requires.long c.in-Case.selector c.in-Case.arms c.in-Case.rest c.in-Case.is).0 c.index-words-0-in-Case.is c.requires.words_are

pub hits-requires-clause-values_are : goal.hits-requires-clause-values_are
hits-requires-clause-values_are g c = l.rest_words g.D.Domain.meaning c.args.domain.now c.args.words.now c.requires.words_are

pub hits-requires-clause-fit : goal.hits-requires-clause-fit
hits-requires-clause-fit g c =
    l.case_fit g.D.Domain.meaning c.args.body.now c.args.words.now c.requires.long c.in-Case.selector c.in-Case.arms c.as_slice-in-Case.result.now c.in-Case.rest c.index-words-0-in-Case.result
    c.in-Case.is c.as_slice-in-Case.ensures c.index-words-0-in-Case.is c.requires.fit

pub hits-requires-clause-long : goal.hits-requires-clause-long
hits-requires-clause-long g c =
    l.case_long g.D.Domain.meaning c.args.body.now c.args.words.now c.requires.long c.in-Case.selector c.in-Case.arms c.as_slice-in-Case.result.now c.in-Case.rest c.in-Case.is c.as_slice-in-Case.ensures

pub returns-in-Write-clause-made : goal.returns-in-Write-clause-made
returns-in-Write-clause-made g c =
    l.made_none g.D.Domain.meaning c.args.domain.now c.new.result.items c.args.body.now c.in-Write.left c.in-Write.right c.in-Write.blocking c.args.guard.now _ c.in-Write.is c.new.ensures.items

pub returns-in-Write-clause-many : goal.returns-in-Write-clause-many
returns-in-Write-clause-many g c = l.many_none g.D.Domain.meaning c.new.result.items c.args.body.now c.in-Write.left c.in-Write.right c.in-Write.blocking c.in-Write.is

pub returns-in_ok-push-in-If-clause-made : goal.returns-in_ok-push-in-If-clause-made
returns-in_ok-push-in-If-clause-made g c =
    IfOk-weaker c.first_of.result _ _ (λ r made. l.made_if g.D.Domain.meaning c.args.domain.now c.copy.new.self c.first_of.new.domain c.args.body.now c.in-If.test c.in-If.yes c.in-If.no
    c.args.words.now c.index-words-0.result c.args.guard.now c.in_ok-test-in-If.test c.new-tests.result.items c.push.new.self.items c.as_slice.result.now r.items c.in-If.is
    (l.if_words g.D.Domain.meaning c.args.body.now c.args.words.now c.requires.long c.in-If.test c.in-If.yes c.in-If.no c.in-If.is) c.requires.guard_is c.copy.ensures.kept c.in_ok-test-in-If.ensures.made.reads_as
    c.new-tests.ensures.items c.in_ok-push-in-If.ensures.items c.as_slice.ensures.value made) c.first_of.ensures.made

pub returns-in_ok-push-in-If-clause-many : goal.returns-in_ok-push-in-If-clause-many
returns-in_ok-push-in-If-clause-many g c =
    IfOk-weaker c.first_of.result _ _ (λ r made. l.many_if g.D.Domain.meaning c.copy.new.self c.first_of.new.domain c.args.body.now c.in-If.test c.in-If.yes c.in-If.no
    c.args.guard.now c.in_ok-test-in-If.test c.new-tests.result.items c.push.new.self.items c.as_slice.result.now r.items c.in-If.is c.new-tests.ensures.items c.in_ok-push-in-If.ensures.items c.as_slice.ensures.value made) c.first_of.ensures.made

pub returns-in_ok-tests-in-Case-clause-made : goal.returns-in_ok-tests-in-Case-clause-made
returns-in_ok-tests-in-Case-clause-made g c =
    IfOk-weaker c.first_of-in-Case.result _ _ (λ r made. l.made_case g.D.Domain.meaning c.args.domain.now c.hits.new.domain c.first_of-in-Case.new.domain c.args.body.now c.in-Case.selector c.in-Case.arms
    c.as_slice-in-Case.result.now c.in-Case.rest c.args.words.now c.index-words-0-in-Case.result c.args.guard.now c.in_ok-tests-in-Case.tests.items c.as_slice-in-Case-2.result.now r.items c.in-Case.is
    (l.case_words g.D.Domain.meaning c.args.body.now c.args.words.now c.requires.long c.in-Case.selector c.in-Case.arms c.in-Case.rest c.in-Case.is).0 c.as_slice-in-Case.ensures c.index-words-0-in-Case.is
    c.requires.guard_is c.hits.ensures.kept c.in_ok-tests-in-Case.ensures.made c.as_slice-in-Case-2.ensures.value made) c.first_of-in-Case.ensures.made

pub returns-in_ok-tests-in-Case-clause-many : goal.returns-in_ok-tests-in-Case-clause-many
returns-in_ok-tests-in-Case-clause-many g c =
    IfOk-weaker c.first_of-in-Case.result _ _ (λ r made. l.many_case g.D.Domain.meaning c.args.domain.now c.hits.new.domain c.first_of-in-Case.new.domain c.args.body.now c.in-Case.selector c.in-Case.arms
    c.as_slice-in-Case.result.now c.in-Case.rest c.args.words.now c.index-words-0-in-Case.result c.args.guard.now c.in_ok-tests-in-Case.tests.items c.as_slice-in-Case-2.result.now r.items c.in-Case.is
    c.as_slice-in-Case.ensures c.in_ok-tests-in-Case.ensures.made c.as_slice-in-Case-2.ensures.value made) c.first_of-in-Case.ensures.made

pub returns-in-Block-clause-made : goal.returns-in-Block-clause-made
returns-in-Block-clause-made g c =
    IfOk-weaker c.copies.result _ _ (λ r made. l.made_parts g.D.Domain.meaning c.args.domain.now c.copies.new.domain c.args.body.now c.in-Block.parts c.len.result _ c.args.guard.now r.items c.in-Block.is c.len.ensures made) c.copies.ensures.made

pub returns-in-Block-clause-many : goal.returns-in-Block-clause-many
returns-in-Block-clause-many g c =
    IfOk-weaker c.copies.result _ _ (λ r made. l.many_parts g.D.Domain.meaning c.args.domain.now c.copies.new.domain c.args.body.now c.in-Block.parts c.len.result c.args.guard.now r.items c.in-Block.is c.len.ensures made) c.copies.ensures.made
