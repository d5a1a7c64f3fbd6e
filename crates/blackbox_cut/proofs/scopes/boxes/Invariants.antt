use Rattle.std.proofs.Common.{◌≡◌, ◌++◌, drop}
use Rattle.blackbox_cut.specs.Boxes.{boxes_from}
use Rattle.blackbox_cut.proofs.scopes.boxes.Given as goal

abbrev pub invariant-loop-at : goal.invariant-loop-at
invariant-loop-at l = l.all ++ boxes_from l.modules l.at (drop l.at l.design.scopes) ≡ boxes_from l.modules 0 l.design.scopes
