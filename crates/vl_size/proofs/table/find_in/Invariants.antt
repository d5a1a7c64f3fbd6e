use Rattle.std.proofs.Common.{◌≡◌, drop}
use Rattle.vl_size.specs.Tables.{first}
use Rattle.vl_size.proofs.table.find_in.Given as goal

abbrev pub invariant-loop-entry : goal.invariant-loop-entry
invariant-loop-entry l = first l.name (drop l.entry-index l.entries) ≡ first l.name l.entries
