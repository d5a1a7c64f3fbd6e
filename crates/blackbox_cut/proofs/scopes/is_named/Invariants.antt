use Rattle.std.proofs.Common.{◌≡◌, false, take}
use Rattle.blackbox_cut.specs.Boxes.{is_named}
use Rattle.blackbox_cut.proofs.scopes.is_named.Given as goal

abbrev pub invariant-loop-name : goal.invariant-loop-name
invariant-loop-name l = is_named (take l.name-index l.names) l.text ≡ false
