use Rattle.std.proofs.Common.{◌≡◌, [], drop, map}
use Rattle.plain_form.specs.Names.{listed}
use Rattle.plain_form.specs.Pieces.{pieces}
use Rattle.plain_form.specs.SeenTable.{seen_row}
use Rattle.plain_form.specs.Table as spec
use Rattle.plain_form.proofs.table.read_rows.Given as goal

abbrev pub invariant-loop-line : goal.invariant-loop-line
invariant-loop-line l = record {
  taken : listed l.taken ≡ map (λ r. r.name.now) l.rows.items;
  rows : spec.rows_after (listed l.names) l.top (map seen_row l.rows.items) (map (λ p. p.now) (drop l.line-index l.line-items)) ≡ spec.rows_after (listed l.names) l.top [] (pieces 10 l.text);
}
