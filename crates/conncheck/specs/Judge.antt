-- A row with the verdict by the ends of its wires.
use Rattle.std.specs.Prelude.{List}
use Rattle.plain_form.specs.Table.{Row}
use Rattle.plain_form.specs.declared.wires.Slot.{Slot}
use Rattle.plain_rows.specs.Plain.{verdict_of}
use Rattle.conncheck.specs.Texts.{Judged}

abbrev pub judge : List Slot → Row → Judged
judge slots r = record { row = r; verdict = verdict_of slots r }
