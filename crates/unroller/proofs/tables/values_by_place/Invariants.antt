use Rattle.unroller.proofs.TableLaws.{Pinned}
use Rattle.unroller.proofs.tables.values_by_place.Given as goal

abbrev pub invariant-loop-at : goal.invariant-loop-at
invariant-loop-at l = Pinned l.bits l.fixed l.at l.table.items
