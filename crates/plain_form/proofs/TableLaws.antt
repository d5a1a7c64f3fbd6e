-- Rows taken one by one.
use Rattle.std.proofs.Common.{◌≡◌, ◌∙◌, ◌+◌, ◌<◌, ◌++◌, ℕ, Bool, true, false, not, List, [], ◌∷◌, Option, Some, None, length, map, drop, get_or, refl, sym, ap, Bor}
use Rattle.std.proofs.lemmas.List.{map-append}
use Rattle.std.specs.List.{list_any}
use Rattle.std.specs.Str.{bytes_eq}
use Rattle.plain_form.specs.Modules.{Text}
use Rattle.plain_form.specs.Pieces.{pieces}
use Rattle.plain_form.specs.SeenTable.{seen_row}
use Rattle.plain_form.specs.Table.{Row, is_skipped, row_of, row_then, rows_after}
use Rattle.plain_form.specs.declared.table.Line.{Line}
use Rattle.plain_form.proofs.ReadLaws.{at_item}

names_seen : (rows : List Line) → map (λ h. h.name) (map seen_row rows) ≡ map (λ r. r.name.now) rows
names_seen [] = refl
names_seen (r ∷ rs) = ap (λ (ns : List Text). r.name.now ∷ ns) (names_seen rs)

negated : (a b : Bool) → a ≡ not b → b ≡ not a
negated true true e = e
negated true false e = refl
negated false true e = refl
negated false false e = e

any_seen : (x : Text) (rows : List Line) (names : List Text) (new : Bool) → names ≡ map (λ r. r.name.now) rows → new ≡ not (list_any (bytes_eq x) names)
    → list_any (bytes_eq x) (map (λ h. h.name) (map seen_row rows)) ≡ not new
any_seen x rows names new e n = ap (list_any (bytes_eq x)) (names_seen rows ∙ sym e) ∙ negated new (list_any (bytes_eq x) names) n

module _ (rows : List Line) (names : List Text) (o : Option Row) (x : Row) (next : List Row → Option (List Row)) where
  pub taken_before : o ≡ Some x → names ≡ map (λ r. r.name.now) rows → false ≡ not (list_any (bytes_eq x.name) names) → row_then (map seen_row rows) o next ≡ None
  taken_before is e n = rw (is, any_seen x.name rows names false e n) refl

  pub taken_now : (new : List Line) (r : Line) → o ≡ Some x → x ≡ seen_row r → names ≡ map (λ r. r.name.now) rows → true ≡ not (list_any (bytes_eq x.name) names) → new ≡ rows ++ (r ∷ [])
      → row_then (map seen_row rows) o next ≡ next (map seen_row new)
  taken_now new r is same e n pushed =
      rw (is, any_seen x.name rows names true e n)
      (ap next (ap (λ (y : Row). map seen_row rows ++ (y ∷ [])) same ∙ sym (map-append seen_row rows (r ∷ [])) ∙ ap (map seen_row) (sym pushed)))

module _ (names : List Text) (top : Text) (held : List Row) (lines : List (Bor Text)) (i : ℕ) (d : Bor Text) where
  pub line_skipped : i < length lines → is_skipped (get_or lines i d).now ≡ true
      → rows_after names top held (map (λ p. p.now) (drop (i + 1) lines)) ≡ rows_after names top held (map (λ p. p.now) (drop i lines))
  line_skipped lt skip = sym (ap (λ ls. rows_after names top held (map (λ p. p.now) ls)) (at_item lines i d lt) ∙ (rw skip refl))

  pub line_read : (fields : List Text) → i < length lines → is_skipped (get_or lines i d).now ≡ false → fields ≡ pieces 44 (get_or lines i d).now
      → rows_after names top held (map (λ p. p.now) (drop i lines))
      ≡ row_then held (row_of names top fields) (λ more. rows_after names top more (map (λ p. p.now) (drop (i + 1) lines)))
  line_read fields lt skip e = ap (λ ls. rows_after names top held (map (λ p. p.now) ls)) (at_item lines i d lt) ∙ (rw (skip, e) refl)
