use Rattle.std.proofs.Common.{◌≡◌, ◌++◌, take}
use Rattle.tree_parts.specs.Parts.{items_of, seen}
use Rattle.tree_parts.proofs.statements.push_items.Given as goal

abbrev pub invariant-loop-at : goal.invariant-loop-at
invariant-loop-at l = seen l.all.items ≡ seen l.initial.all.items ++ items_of (take l.at l.arms)
