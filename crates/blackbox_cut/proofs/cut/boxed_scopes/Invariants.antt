use Rattle.blackbox_cut.specs.Boxes.{is_among}
use Rattle.blackbox_cut.proofs.BoxLaws.{AreMarked}
use Rattle.blackbox_cut.proofs.cut.boxed_scopes.Given as goal

abbrev pub invariant-loop-at : goal.invariant-loop-at
invariant-loop-at l = AreMarked l.design.scopes (is_among l.closed) l.marks.items l.at
