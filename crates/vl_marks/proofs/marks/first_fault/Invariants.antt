use Rattle.std.proofs.Common.{◌≡◌, ◌-◌, drop, length}
use Rattle.vl_names.specs.Names.{listed}
use Rattle.vl_marks.specs.Marks.{first_fault, names_of}
use Rattle.vl_marks.proofs.marks.first_fault.Given as goal

abbrev pub invariant-loop-turn : goal.invariant-loop-turn
invariant-loop-turn l = (l.behind.fault ≡ first_fault (listed l.names) (drop (length l.marks - l.turn) l.marks)) × (listed l.behind.names ≡ names_of (drop (length l.marks - l.turn) l.marks))
