-- Rows as the code holds them.
use Rattle.plain_form.specs.Table as spec
use Rattle.plain_form.specs.declared.table.Line.{Line}

abbrev pub seen_row : Line → spec.Row
seen_row r = record { name = r.name.now; source = r.source; dest = r.dest }
