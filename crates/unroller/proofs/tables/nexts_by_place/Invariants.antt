use Rattle.unroller.proofs.TableLaws.{Linked}
use Rattle.unroller.proofs.tables.nexts_by_place.Given as goal

abbrev pub invariant-loop-done : goal.invariant-loop-done
invariant-loop-done l = Linked l.states l.nexts l.done l.table.items
