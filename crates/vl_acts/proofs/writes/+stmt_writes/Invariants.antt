use Rattle.std.proofs.Common.{◌≡◌, drop, map}
use Rattle.vl_acts.specs.Acts.{act, arm_act, acts_of, arms_of}
use Rattle.vl_acts.specs.Writes.{some_act_writes, some_arm_writes}
use Rattle.vl_acts.proofs.writes.+stmt_writes.Given as goal

abbrev pub invariant-some_stmt_writes-loop-stmt : goal.invariant-some_stmt_writes-loop-stmt
invariant-some_stmt_writes-loop-stmt l = some_act_writes l.name (acts_of (map act (drop l.stmt-index l.stmts))) ≡ some_act_writes l.name (acts_of (map act l.stmts))

abbrev pub invariant-some_citem_writes-loop-item : goal.invariant-some_citem_writes-loop-item
invariant-some_citem_writes-loop-item l = some_arm_writes l.name (arms_of (map arm_act (drop l.item-index l.items))) ≡ some_arm_writes l.name (arms_of (map arm_act l.items))
