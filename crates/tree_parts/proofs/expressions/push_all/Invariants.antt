use Rattle.std.proofs.Common.{◌≡◌, ◌++◌, take}
use Rattle.tree_parts.specs.Parts.{seen}
use Rattle.tree_parts.proofs.expressions.push_all.Given as goal

abbrev pub invariant-loop-at : goal.invariant-loop-at
invariant-loop-at l = seen l.all.items ≡ seen l.initial.all.items ++ take l.at l.parts
