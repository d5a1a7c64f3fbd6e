use Rattle.std.proofs.Common.{◌≡◌, ◌++◌, map, take}
use Rattle.design_core.specs.declared.tree.DMatch.{DMatch, out-DMatch}
use Rattle.tree_parts.specs.Parts.{seen}
use Rattle.tree_parts.proofs.statements.push_values.Given as goal

abbrev pub invariant-loop-at : goal.invariant-loop-at
invariant-loop-at l = seen l.all.items ≡ seen l.initial.all.items ++ map (λ (x : DMatch). (out-DMatch x).value) (take l.at l.items)
