use Rattle.std.proofs.Common.{◌∙◌, ap₂, sym, subst, Option, ℕ}
use Rattle.plain_form.specs.SeenTable.{seen_row}
use Rattle.plain_rows.specs.Plain.{IsRightHere, end_of, is_same, one_of, ones}
use Rattle.plain_rows.specs.Verdicts.{refuted}
use Rattle.plain_rows.proofs.RowLaws as laws
use Rattle.plain_rows.proofs.decide.decide_row.Goals as goal

pub returns-then-is_same-clause-right : goal.returns-then-is_same-clause-right
returns-then-is_same-clause-right c = λ sound s d.
    let x = c.end_of-source.ensures in
    let y = c.end_of-dest.ensures in
    laws.row_proved c.args.slots.now (seen_row c.args.row)
    (laws.ends_same (end_of c.args.slots.now c.args.row.source) (end_of c.args.slots.now c.args.row.dest) (ap₂ is_same (sym x) (sym y) ∙ sym (c.if-is_same.ensures {u = tt})))

pub returns-clause-right : goal.returns-clause-right
returns-clause-right c = λ sound s d.
    let x = c.end_of-source.ensures in
    let y = c.end_of-dest.ensures in
    let P : Option ℕ → Type 0 = λ o. IsRightHere c.args.slots.now (seen_row c.args.row) (refuted 0 (ones o)) in
    subst P (sym (c.one_of.ensures ∙ ap₂ one_of x y))
    (laws.row_refuted c.args.slots.now (seen_row c.args.row) sound s d (ap₂ is_same (sym x) (sym y) ∙ sym (c.if-is_same.ensures {u = tt})))
