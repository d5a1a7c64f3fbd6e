use Rattle.std.proofs.Common.{rules, arith, ◌≡◌, ◌+◌, ◌++◌, ◌∷◌, [], Err, take, drop, map, length, count_by, not, ap, subst, ◌∙◌, refl, get_or, List}
use Rattle.std.proofs.lemmas.List.{take_all}
use Rattle.plain_form.specs.Names.{listed}
use Rattle.plain_form.specs.SeenTable.{seen_row}
use Rattle.plain_form.specs.declared.table.Line.{Line}
use Rattle.plain_form.specs.declared.wires.Slot.{Slot}
use Rattle.plain_rows.specs.Plain.{verdict_of}
use Rattle.plain_rows.specs.Verdicts.{Verdict}
use Rattle.conncheck.specs.Ends.{Adds}
use Rattle.conncheck.specs.Texts.{total_text, total_of, verdict_text}
use Rattle.conncheck.proofs.PrintLaws as laws
use Rattle.conncheck.proofs.ReportLaws as rep
use Rattle.conncheck.proofs.report.say_report.Goals as goal
use Rattle.conncheck.specs.Reply.{report}

pub returns-in_err-say_row-clause-printed : goal.returns-in_err-say_row-clause-printed
returns-in_err-say_row-clause-printed g c =
    let top = c.args.top.now in
    let names = listed c.args.names.now in
    let slots = g.D.Decide.slots c.args.decider.now in
    let rows = c.args.rows.now in
    let i = c.loop-row.row-index in
    let d : Line = record { name = record { ref_ptr = (0, 0); now = [] }; source = 0; dest = 0 } in
    let e : c.from_residual.result ≡ Err c.in_err-say_row.field-0.0 = search rules in
    let adds = rw (c.in_err-say_row.was {u = tt}) at c.say_row.ensures.printed in
    let P : Verdict → Type 0 = λ v. Adds {T = Unit {0}} (verdict_text top names (seen_row (get_or rows i d)).name v) (g.K.Sink.taken c.loop-row.out) (g.K.Sink.taken c.say_row.new.out) (Err c.in_err-say_row.field-0.0) in
    rw e (laws.stopped_at (report top names (rep.js top names slots rows)) (g.K.Sink.taken c.args.out.now) (g.K.Sink.taken c.loop-row.out) (g.K.Sink.taken c.say_row.new.out)
    (map (rep.text_at top names slots rows) (take i rows)) (map (rep.text_at top names slots rows) (drop (i + 1) rows) ++ (total_text (rep.js top names slots rows) ∷ []))
    (rep.text_at top names slots rows (get_or rows i d)) c.in_err-say_row.field-0.0
    (laws.row_at (rep.text_at top names slots rows) rows i d (total_text (rep.js top names slots rows)) c.loop-row-test.true ∙ rep.pieces_at top names slots rows)
    c.loop-row.invariant.taken (subst P (c.decide-verdict.ensures.by_ends ∙ ap (λ (ss : List Slot). verdict_of ss (seen_row (get_or rows i d))) c.loop-row.invariant.slots) adds))

pub returns-in_err-say_total-clause-printed : goal.returns-in_err-say_total-clause-printed
returns-in_err-say_total-clause-printed g c =
    let top = c.args.top.now in
    let names = listed c.args.names.now in
    let slots = g.D.Decide.slots c.args.decider.now in
    let rows = c.args.rows.now in
    let i = c.loop-row.row-index in
    let whole : take i rows ≡ rows = take_all i rows (omega arith) in
    let e : c.from_residual-in_err-say_total.result ≡ Err c.in_err-say_total.field-0.0 = search rules in
    let adds = rw (c.in_err-say_total.was {u = tt}) at c.say_total.ensures.printed in
    let total : total_of (length rows) c.loop-row.proved c.loop-row.refuted ≡ total_text (rep.js top names slots rows) =
    rep.total_at top names slots rows (length rows) c.loop-row.proved c.loop-row.refuted refl (c.loop-row.invariant.proved ∙ ap (count_by (rep.proved_row top names slots rows)) whole)
    (c.loop-row.invariant.refuted ∙ ap (count_by (λ r. not (rep.proved_row top names slots rows r))) whole) in
    let parts : map (rep.text_at top names slots rows) (take i rows) ++ (total_of (length rows) c.loop-row.proved c.loop-row.refuted ∷ []) ≡ map (rep.text_at top names slots rows) rows ++ (total_text (rep.js top names slots rows) ∷ []) =
    rw (whole, total) refl in
    rw e (laws.stopped_at (report top names (rep.js top names slots rows)) (g.K.Sink.taken c.args.out.now) (g.K.Sink.taken c.loop-row.out) (g.K.Sink.taken c.say_total.new.out)
    (map (rep.text_at top names slots rows) (take i rows)) [] (total_of (length rows) c.loop-row.proved c.loop-row.refuted) c.in_err-say_total.field-0.0
    (parts ∙ rep.pieces_at top names slots rows) c.loop-row.invariant.taken adds)

pub returns-then-refuted-eq0-clause-printed : goal.returns-then-refuted-eq0-clause-printed
returns-then-refuted-eq0-clause-printed g c =
    let top = c.args.top.now in
    let names = listed c.args.names.now in
    let slots = g.D.Decide.slots c.args.decider.now in
    let rows = c.args.rows.now in
    let i = c.loop-row.row-index in
    let whole : take i rows ≡ rows = take_all i rows (omega arith) in
    let left : c.loop-row.refuted ≡ count_by (λ r. not (rep.proved_row top names slots rows r)) rows = c.loop-row.invariant.refuted ∙ ap (count_by (λ r. not (rep.proved_row top names slots rows r))) whole in
    let total : total_of (length rows) c.loop-row.proved c.loop-row.refuted ≡ total_text (rep.js top names slots rows) =
    rep.total_at top names slots rows (length rows) c.loop-row.proved c.loop-row.refuted refl (c.loop-row.invariant.proved ∙ ap (count_by (rep.proved_row top names slots rows)) whole) left in
    let parts : map (rep.text_at top names slots rows) (take i rows) ++ (total_of (length rows) c.loop-row.proved c.loop-row.refuted ∷ []) ≡ map (rep.text_at top names slots rows) rows ++ (total_text (rep.js top names slots rows) ∷ []) =
    rw (whole, total) refl in (
      rep.status_done top names slots rows c.loop-row.refuted left c.if-refuted-eq0.true,
      laws.all_out (report top names (rep.js top names slots rows)) (g.K.Sink.taken c.args.out.now) (g.K.Sink.taken c.loop-row.out) (g.K.Sink.taken c.say_total.new.out)
          (map (rep.text_at top names slots rows) (take i rows)) (total_of (length rows) c.loop-row.proved c.loop-row.refuted)
          (parts ∙ rep.pieces_at top names slots rows) c.loop-row.invariant.taken ((c.in_ok-say_total.ensures {u = tt}).printed),
    )

pub returns-else-refuted-eq0-clause-printed : goal.returns-else-refuted-eq0-clause-printed
returns-else-refuted-eq0-clause-printed g c =
    let top = c.args.top.now in
    let names = listed c.args.names.now in
    let slots = g.D.Decide.slots c.args.decider.now in
    let rows = c.args.rows.now in
    let i = c.loop-row.row-index in
    let whole : take i rows ≡ rows = take_all i rows (omega arith) in
    let left : c.loop-row.refuted ≡ count_by (λ r. not (rep.proved_row top names slots rows r)) rows = c.loop-row.invariant.refuted ∙ ap (count_by (λ r. not (rep.proved_row top names slots rows r))) whole in
    let total : total_of (length rows) c.loop-row.proved c.loop-row.refuted ≡ total_text (rep.js top names slots rows) =
    rep.total_at top names slots rows (length rows) c.loop-row.proved c.loop-row.refuted refl (c.loop-row.invariant.proved ∙ ap (count_by (rep.proved_row top names slots rows)) whole) left in
    let parts : map (rep.text_at top names slots rows) (take i rows) ++ (total_of (length rows) c.loop-row.proved c.loop-row.refuted ∷ []) ≡ map (rep.text_at top names slots rows) rows ++ (total_text (rep.js top names slots rows) ∷ []) =
    rw (whole, total) refl in (
      rep.status_findings top names slots rows c.loop-row.refuted left c.if-refuted-eq0.false,
      laws.all_out (report top names (rep.js top names slots rows)) (g.K.Sink.taken c.args.out.now) (g.K.Sink.taken c.loop-row.out) (g.K.Sink.taken c.say_total.new.out)
          (map (rep.text_at top names slots rows) (take i rows)) (total_of (length rows) c.loop-row.proved c.loop-row.refuted)
          (parts ∙ rep.pieces_at top names slots rows) c.loop-row.invariant.taken ((c.in_ok-say_total.ensures {u = tt}).printed),
    )

pub returns-in_err-say_row-clause-each : goal.returns-in_err-say_row-clause-each
returns-in_err-say_row-clause-each g c =
    let slots = g.D.Decide.slots c.args.decider.now in
    let i = c.loop-row.row-index in
    rep.each_at c.args.top.now (listed c.args.names.now) slots c.args.rows.now (g.D.Decide.decided c.args.decider.now) (g.D.Decide.decided c.decide-verdict.new.self) i
    (g.K.Sink.taken c.args.out.now) (g.K.Sink.taken c.say_row.new.out) (omega (arith, c.decide-verdict.ensures.counted, c.loop-row.invariant.decided))
    (laws.rest_of (g.K.Sink.taken c.args.out.now) (g.K.Sink.taken c.loop-row.out) (g.K.Sink.taken c.say_row.new.out) _ _ c.say_row.result c.loop-row.invariant.taken c.say_row.ensures.printed)

pub returns-in_err-say_total-clause-each : goal.returns-in_err-say_total-clause-each
returns-in_err-say_total-clause-each g c =
    let slots = g.D.Decide.slots c.args.decider.now in
    let i = c.loop-row.row-index in
    rep.each_at c.args.top.now (listed c.args.names.now) slots c.args.rows.now (g.D.Decide.decided c.args.decider.now) (g.D.Decide.decided c.loop-row.decider) i
    (g.K.Sink.taken c.args.out.now) (g.K.Sink.taken c.say_total.new.out) (omega (arith, c.loop-row.invariant.decided))
    (laws.rest_of (g.K.Sink.taken c.args.out.now) (g.K.Sink.taken c.loop-row.out) (g.K.Sink.taken c.say_total.new.out) _ _ c.say_total.result c.loop-row.invariant.taken c.say_total.ensures.printed)

pub returns-then-refuted-eq0-clause-each : goal.returns-then-refuted-eq0-clause-each
returns-then-refuted-eq0-clause-each g c =
    let slots = g.D.Decide.slots c.args.decider.now in
    let i = c.loop-row.row-index in
    rep.each_at c.args.top.now (listed c.args.names.now) slots c.args.rows.now (g.D.Decide.decided c.args.decider.now) (g.D.Decide.decided c.loop-row.decider) i
    (g.K.Sink.taken c.args.out.now) (g.K.Sink.taken c.say_total.new.out) (omega (arith, c.loop-row.invariant.decided))
    (laws.rest_of (g.K.Sink.taken c.args.out.now) (g.K.Sink.taken c.loop-row.out) (g.K.Sink.taken c.say_total.new.out) _ _ c.say_total.result c.loop-row.invariant.taken c.say_total.ensures.printed)

pub returns-else-refuted-eq0-clause-each : goal.returns-else-refuted-eq0-clause-each
returns-else-refuted-eq0-clause-each g c =
    let slots = g.D.Decide.slots c.args.decider.now in
    let i = c.loop-row.row-index in
    rep.each_at c.args.top.now (listed c.args.names.now) slots c.args.rows.now (g.D.Decide.decided c.args.decider.now) (g.D.Decide.decided c.loop-row.decider) i
    (g.K.Sink.taken c.args.out.now) (g.K.Sink.taken c.say_total.new.out) (omega (arith, c.loop-row.invariant.decided))
    (laws.rest_of (g.K.Sink.taken c.args.out.now) (g.K.Sink.taken c.loop-row.out) (g.K.Sink.taken c.say_total.new.out) _ _ c.say_total.result c.loop-row.invariant.taken c.say_total.ensures.printed)
