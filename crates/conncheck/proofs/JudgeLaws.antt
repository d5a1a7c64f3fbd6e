-- What a check comes to, by the bytes of its files.
use Rattle.std.proofs.Common.{◌≡◌, ℕ, List, [], ◌∷◌, Option, Some, None, map, refl, sym, ap, subst, inl, inr}
use Rattle.design_core.specs.Cells.{In}
use Rattle.plain_form.specs.Table.{Row, rows_of}
use Rattle.plain_form.specs.Wires.{Wires, source_of}
use Rattle.plain_form.specs.declared.wires.Slot.{Slot}
use Rattle.plain_rows.specs.Plain.{IsRightHere}
use Rattle.plain_rows.proofs.RowLaws.{verdict_right}
use Rattle.plain_rows.proofs.SoundLaws.{AreIn, rows_in, source_even, source_sound}
use Rattle.conncheck.specs.Judge.{judge}
use Rattle.conncheck.specs.Texts.{Judged}
use Rattle.conncheck.specs.Reply.{Reply, not_yet, report}
use Rattle.conncheck.specs.Words.{Text}
use Rattle.conncheck.specs.commands.Check.{AreJudged, OfSource, OfTable, OfWords, Values, first_of}

rows_same : (slots : List Slot) (rows : List Row) → map (λ (j : Judged). j.row) (map (judge slots) rows) ≡ rows
rows_same slots [] = refl
rows_same slots (r ∷ rs) = ap (λ (xs : List Row). r ∷ xs) (rows_same slots rs)

in_judged : (slots : List Slot) (rows : List Row) (j : Judged) → In j (map (judge slots) rows) → (r : Row) × In r rows × (j ≡ judge slots r)
in_judged slots [] j h = absurd h
in_judged slots (r ∷ rs) j (inl e) = (r, inl refl, e)
in_judged slots (r ∷ rs) j (inr h) = let k = in_judged slots rs j h in (k.0, inr k.1, k.2)

are_judged : (w : Wires) (top : Text) (source : List Text) (table : Text) (rows : List Row) → source_of top source ≡ Some w → rows_of w.names top table ≡ Some rows
    → AreJudged w rows (map (judge w.slots) rows)
are_judged w top source table rows s t = record {
  same_rows = rows_same w.slots rows;
  right = λ j h.
      let k = in_judged w.slots rows j h in
      let P : ℕ → Type 0 = λ n. AreIn n rows in
      let inside = subst P (source_even top source w s) (rows_in w.names top table rows t) k.0 k.1 in
      let Q : Judged → Type 0 = λ x. IsRightHere w.slots x.row x.verdict in
      subst Q (sym k.2) (verdict_right w.slots k.0 (source_sound top source w s) inside.0 inside.1);
}

module _ (c : Values) (table : Text) (source : List Text) where
  pub not_source : source_of c.top source ≡ None → OfWords c table source (not_yet (first_of c.files))
  not_source e = let P : Option Wires → Type 0 = λ o. OfSource c table o (not_yet (first_of c.files)) in subst P (sym e) refl

  pub not_table : (w : Wires) → source_of c.top source ≡ Some w → rows_of w.names c.top table ≡ None → OfWords c table source (not_yet c.table)
  not_table w e t =
      let P : Option Wires → Type 0 = λ o. OfSource c table o (not_yet c.table) in
      let Q : Option (List Row) → Type 0 = λ o. OfTable c w o (not_yet c.table) in
      subst P (sym e) (subst Q (sym t) refl)

  pub of_report : (w : Wires) (rows : List Row) → source_of c.top source ≡ Some w → rows_of w.names c.top table ≡ Some rows
      → OfWords c table source (report c.top w.names (map (judge w.slots) rows))
  of_report w rows e t =
      let o = report c.top w.names (map (judge w.slots) rows) in
      let P : Option Wires → Type 0 = λ s. OfSource c table s o in
      let Q : Option (List Row) → Type 0 = λ r. OfTable c w r o in
      subst P (sym e) (subst Q (sym t) (record { judged = map (judge w.slots) rows; are_judged = are_judged w c.top source table rows e t; is_report = refl }))

  by_table : (w : Wires) (o : Option (List Row)) → source_of c.top source ≡ Some w → rows_of w.names c.top table ≡ o → (x : Reply) × OfWords c table source x
  by_table w None e t = (not_yet c.table, not_table w e t)
  by_table w (Some rows) e t = (report c.top w.names (map (judge w.slots) rows), of_report w rows e t)

  by_source : (o : Option Wires) → source_of c.top source ≡ o → (x : Reply) × OfWords c table source x
  by_source None e = (not_yet (first_of c.files), not_source e)
  by_source (Some w) e = by_table w (rows_of w.names c.top table) e refl

  -- there is always an reply
  pub some_reply : (x : Reply) × OfWords c table source x
  some_reply = by_source (source_of c.top source) refl
