use Rattle.std.proofs.Common.{◌≡◌, ◌++◌, map, take}
use Rattle.design_core.specs.declared.tree.DArm.{DArm, out-DArm}
use Rattle.tree_parts.specs.Parts.{seen}
use Rattle.tree_parts.proofs.statements.push_bodies.Given as goal

abbrev pub invariant-loop-at : goal.invariant-loop-at
invariant-loop-at l = seen l.all.items ≡ seen l.initial.all.items ++ map (λ (a : DArm). (out-DArm a).body) (take l.at l.arms)
