use Rattle.std.proofs.Common.{◌≡◌, ◌+◌, ◌≤◌, drop}
use Rattle.vl_size.specs.Nodes.{sum_of}
use Rattle.vl_size.proofs.nodes.total.Given as goal

abbrev pub invariant-loop-part : goal.invariant-loop-part
invariant-loop-part l = (l.sum + sum_of (drop l.part-index l.parts) ≡ sum_of l.parts) × (l.sum ≤ 65536)
