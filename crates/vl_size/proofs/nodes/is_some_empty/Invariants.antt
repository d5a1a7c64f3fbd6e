use Rattle.std.proofs.Common.{◌≡◌, drop}
use Rattle.vl_size.specs.Sizings.{is_some_empty}
use Rattle.vl_size.proofs.nodes.is_some_empty.Given as goal

abbrev pub invariant-loop-part : goal.invariant-loop-part
invariant-loop-part l = is_some_empty (drop l.part-index l.parts) ≡ is_some_empty l.parts
