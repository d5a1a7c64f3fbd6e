use Rattle.std.proofs.Common.{◌≡◌, drop}
use Rattle.vl_tree.specs.Order.{lower, lowest, those_of}
use Rattle.vl_tree.proofs.order.lowest.Given as goal

abbrev pub invariant-loop-code : goal.invariant-loop-code
invariant-loop-code l = lower l.least (lowest (those_of (drop l.code-index l.codes))) ≡ lowest (those_of l.codes)
