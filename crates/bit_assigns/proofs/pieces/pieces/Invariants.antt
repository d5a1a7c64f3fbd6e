use Rattle.std.proofs.Common.{◌≡◌, ◌++◌, drop}
use Rattle.bit_assigns.specs.Pieces.{pieces}
use Rattle.bit_assigns.proofs.pieces.pieces.Given as goal

abbrev pub invariant-loop-at : goal.invariant-loop-at
invariant-loop-at l = l.made ++ pieces l.scope (drop l.at l.targets) (drop l.at l.sources) ≡ pieces l.scope l.targets l.sources
