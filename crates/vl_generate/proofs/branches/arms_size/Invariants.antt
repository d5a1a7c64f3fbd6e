use Rattle.std.proofs.Common.{◌≡◌, drop, map}
use Rattle.vl_items.specs.Parts.{arms_of, arm_part}
use Rattle.vl_generate.specs.Branches.{arms_size}
use Rattle.vl_generate.proofs.branches.arms_size.Given as goal

abbrev pub invariant-loop-arm : goal.invariant-loop-arm
invariant-loop-arm g l = arms_size (g.S.Constants.meaning l.scope) l.all (arms_of (map arm_part (drop l.arm-index l.arms))) ≡ arms_size (g.S.Constants.meaning l.scope) l.fn.size (arms_of (map arm_part l.arms))
