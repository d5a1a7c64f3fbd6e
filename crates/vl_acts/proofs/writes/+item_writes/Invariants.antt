use Rattle.std.proofs.Common.{◌≡◌, drop, map}
use Rattle.vl_items.specs.Parts.{part, arm_part, parts_of, arms_of}
use Rattle.vl_acts.specs.Writes.{some_part_writes, some_body_writes}
use Rattle.vl_acts.proofs.writes.+item_writes.Given as goal

abbrev pub invariant-some_item_writes-loop-item : goal.invariant-some_item_writes-loop-item
invariant-some_item_writes-loop-item l = some_part_writes l.name (parts_of (map part (drop l.item-index l.items))) ≡ some_part_writes l.name (parts_of (map part l.items))

abbrev pub invariant-some_arm_writes-loop-arm : goal.invariant-some_arm_writes-loop-arm
invariant-some_arm_writes-loop-arm l = some_body_writes l.name (arms_of (map arm_part (drop l.arm-index l.arms))) ≡ some_body_writes l.name (arms_of (map arm_part l.arms))
