use Rattle.std.proofs.Common.{◌≡◌, drop, map}
use Rattle.vl_items.specs.Parts.{arms_of, arm_part}
use Rattle.vl_generate.specs.Branches.{of_arms, found_of, no_match}
use Rattle.vl_generate.proofs.branches.of_arms.Given as goal

abbrev pub invariant-loop-arm : goal.invariant-loop-arm
invariant-loop-arm g l =
    (of_arms (g.S.Constants.meaning l.scope) l.size l.selector l.at (found_of l.all.matched l.all.default) (arms_of (map arm_part (drop l.arm-index l.arms))) ≡ of_arms (g.S.Constants.meaning l.scope) l.size l.selector 0 no_match (arms_of (map arm_part l.arms)))
    × (l.at ≡ l.arm-index)
