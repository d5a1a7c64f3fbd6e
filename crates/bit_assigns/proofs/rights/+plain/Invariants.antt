use Rattle.std.proofs.Common.{◌≡◌, drop}
use Rattle.std.specs.List.{list_all}
use Rattle.bit_assigns.specs.Sides.{is_plain_right}
use Rattle.bit_assigns.proofs.rights.+plain.Given as goal

abbrev pub invariant-all_plain-loop-part : goal.invariant-all_plain-loop-part
invariant-all_plain-loop-part l = list_all is_plain_right (drop l.part-index l.parts) ≡ list_all is_plain_right l.parts
